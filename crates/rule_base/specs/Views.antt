-- Views: the element that a view shows.
use Rattle.rule_base.specs.declared.element.Element.{Element}
use Rattle.rule_base.specs.declared.element.ElementView.{ElementView}

-- an element with the view's tag, its class, and the values where they lie
abbrev pub element_in : ElementView → Element
element_in view = record { tag = view.tag; class = view.class; values = view.values.now }
