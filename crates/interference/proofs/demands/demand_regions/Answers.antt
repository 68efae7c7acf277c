-- One region more.
use Rattle.std.proofs.Common.{◌+◌, drop, map, sym, ◌∙◌, ap}
use Rattle.interference.specs.Locks.{every_region, region}
use Rattle.interference.specs.Footprint.{in_mode}
use Rattle.interference.specs.Finding.{with_demands}
use Rattle.interference.proofs.DemandCodeLemmas.{every_region-next}
use Rattle.interference.proofs.demands.demand_regions.Goals as goal

pub loop-number-preserved : goal.loop-number-preserved
loop-number-preserved c =
    let at = c.loop-number.number in
    c.loop-number.invariant
    ∙ ap (λ numbers. with_demands c.loop-number.out.items (in_mode c.args.mode (map (region c.args.class) numbers))) (every_region-next at c.loop-number-test.true)
    ∙ ap (λ footprint. with_demands footprint (in_mode c.args.mode (map (region c.args.class) (drop (at + 1) every_region)))) (sym c.in_ok-demand.ensures)
