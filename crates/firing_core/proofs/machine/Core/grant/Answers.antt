-- There is room for the claim, its grant may fire, and the fields are those after it.
use Rattle.std.proofs.Common.{◌≡◌, ◌+◌, ◌-◌, ◌^◌, ◌||◌, ◌==◌, None, false, length, refl, rules, sym, subst, ap, ◌∙◌}
use Rattle.rule_base.specs.Fits.{Fits}
use Rattle.interference.specs.Footprint.{footprint}
use Rattle.interference.proofs.LockLemmas.{footprint_in_range}
use Rattle.standing_claims.specs.Amounts.{IsFootprint}
use Rattle.firing_core.specs.CoreFields.{core_in}
use Rattle.firing_core.specs.CoreState.{CoreState}
use Rattle.firing_core.specs.Grants.{Granted, MayFireAway}
use Rattle.firing_core.specs.Refusals.{claim_refusal}
use Rattle.firing_core.proofs.ClaimLemmas.{IsClaimable-none, Rises-footprint}
use Rattle.firing_core.proofs.MakeClaimLemmas.{HasClaimed, HoldsKept-claimed, HoldsKept-reserved, may_fire_away}
use Rattle.firing_core.proofs.machine.Core.grant.Goals as goal

pub add-number-requires-clause-not_full : goal.add-number-requires-clause-not_full
add-number-requires-clause-not_full c =
    let before = c.self.inside in
    let free : claim_refusal (core_in before) c.args.candidate.now ≡ None = subst (λ (k : CoreState). claim_refusal k c.args.candidate.now ≡ None) (sym c.self.view_is) c.requires.free in
    let room = (IsClaimable-none (core_in before) c.args.candidate.now free).room in
    subst (λ claims. ((c.reserve-2.new.self.given == 2 ^ 64 - 1) || (length claims == 4095)) ≡ false) (sym c.in_ok-reserve-2.ensures.claims)
    (subst (λ given. ((given == 2 ^ 64 - 1) || (length before.claims.claims == 4095)) ≡ false) (sym c.in_ok-reserve-2.ensures.given) room)

pub add-number-requires-clause-footprint : goal.add-number-requires-clause-footprint
add-number-requires-clause-footprint c =
    let program = c.self.inside.program.value in
    let asked = c.requires.asked ∙ ap (λ (k : CoreState). footprint k.program c.args.candidate.now) (sym c.self.view_is) in
    subst IsFootprint (sym asked) (record { rising = Rises-footprint program c.args.candidate.now; in_range = footprint_in_range program c.args.candidate.now c.self.invariant.kept.lawful.sound })

pub new-requires : goal.new-requires
new-requires c =
    let before = c.self.inside in
    let k = core_in before in
    let candidate = c.args.candidate.now in
    let fits : Fits k.program candidate = subst (λ (k : CoreState). Fits k.program candidate) (sym c.self.view_is) c.requires.fits in
    let free : claim_refusal k candidate ≡ None = subst (λ (k : CoreState). claim_refusal k candidate ≡ None) (sym c.self.view_is) c.requires.free in
    let program : c.in_ok-program.program.value ≡ k.program = search rules in
    let number : c.add-number.result ≡ k.given + 1 = search rules in
    let granted : c.in_ok-granted.granted ≡ candidate = search rules in
    let is : Granted = record { program = c.in_ok-program.program.value; number = c.add-number.result; candidate = c.in_ok-granted.granted } in
    let same : is ≡ record { program = k.program; number = k.given + 1; candidate = candidate } = λ i. record { program = program i; number = number i; candidate = granted i } in
    subst MayFireAway (sym same)
    (may_fire_away k candidate c.self.invariant.kept.lawful fits free)

pub invariant_of-self-2 : goal.invariant_of-self-2
invariant_of-self-2 c =
    let before = c.self.inside in
    let k = core_in before in
    let candidate = c.args.candidate.now in
    let fits : Fits k.program candidate = subst (λ (k : CoreState). Fits k.program candidate) (sym c.self.view_is) c.requires.fits in
    let free : claim_refusal k candidate ≡ None = subst (λ (k : CoreState). claim_refusal k candidate ≡ None) (sym c.self.view_is) c.requires.free in
    let asked = c.requires.asked ∙ ap (λ (k : CoreState). footprint k.program candidate) (sym c.self.view_is) in
    let has : HasClaimed before c.reserve.new.self c.add-number.new.self candidate c.in_ok-needed.needed = record {
      places = c.in_ok-reserve.ensures.memory;
      base = c.in_ok-reserve.ensures.base;
      entries = c.in_ok-reserve.ensures.entries;
      next = c.in_ok-reserve.ensures.next;
      needs = search rules;
      room = c.in_ok-reserve.ensures.ok.0;
      spare = c.in_ok-reserve.ensures.ok.1;
      claims = search rules;
      footprints = search rules;
      given = search rules;
    } in
    HoldsKept-claimed before c.reserve.new.self c.add-number.new.self candidate c.in_ok-needed.needed c.self.invariant fits free has

pub invariant_of-self : goal.invariant_of-self
invariant_of-self c =
    let made = c.reserve.ensures in
    HoldsKept-reserved c.self.inside c.reserve.new.self c.self.inside.claims c.self.invariant (record { places = made.memory; base = made.base; entries = made.entries; next = made.next; room = made.kept.0; spare = made.kept.1 }) refl

pub invariant_of-self-in_err-reserve-2 : goal.invariant_of-self-in_err-reserve-2
invariant_of-self-in_err-reserve-2 c =
    let made = c.reserve.ensures in
    HoldsKept-reserved c.self.inside c.reserve.new.self c.reserve-2.new.self c.self.invariant (record { places = made.memory; base = made.base; entries = made.entries; next = made.next; room = made.kept.0; spare = made.kept.1 }) (search rules)
