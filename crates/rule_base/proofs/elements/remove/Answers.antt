-- What `retain` keeps is what is left.
use Rattle.std.proofs.Common.{◌==◌, not, rules}
use Rattle.std.specs.List.{list_any}
use Rattle.std.proofs.lemmas.Fn.{filter_same}
use Rattle.rule_base.specs.declared.elements.Place.{Place}
use Rattle.rule_base.proofs.elements.remove.Goals as goal

pub returns-clause-left : goal.returns-clause-left
returns-clause-left c =
    filter_same _ (λ (place : Place). not (list_any (λ tag. tag == place.tag) c.args.gone.now)) _ (λ x b f' k. search rules) c.args.places.now.items c.retain.new.self.items c.retain.ensures.filtered
