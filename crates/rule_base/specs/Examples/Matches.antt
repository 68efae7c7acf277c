-- What condition elements accept, which instantiations match, and in what order the conflict set has them.
use Rattle.std.specs.Prelude.{◌≡◌, ℕ, List, [], ◌∷◌, Some, None, Ok, Err}
use Rattle.rule_base.specs.declared.value.Value.TheVariants.{Sym}
use Rattle.rule_base.specs.declared.condition.Test.TheVariants.{Bind, OneOf}
use Rattle.rule_base.specs.declared.element.Element.{Element}
use Rattle.rule_base.specs.declared.instantiation.Choice.{Choice}
use Rattle.rule_base.specs.Acceptance.{accepts}
use Rattle.rule_base.specs.Match.{match_of}
use Rattle.rule_base.specs.ConflictSet.{conflict_set, conflict_set_of}
use Rattle.rule_base.specs.Examples.Programs.{int, element, present, is_variable, plain_rule, between_rule, local_rule, self_rule, blocked, blocked_rule, either, left_rule, right_rule, once, once_rule, ranges, none_rule, mid_rule, same_rule, find_block, find_block_rule, blocks}

-- the choice of a rule with these tags
abbrev pub choice : ℕ → List ℕ → Choice
choice rule tags = record { rule = rule; tags = tags }

pub record AreAcceptances : Type 0 where
  -- the first use of a variable binds it
  pub unbound : accepts (present 0 (Bind 0 0 ∷ [])) (None ∷ []) (element 1 0 (int 7 ∷ [])) ≡ Some (Some (int 7) ∷ [])
  -- a later one asks for the same value
  pub bound_same : accepts (present 0 (is_variable 0 0 ∷ [])) (Some (int 7) ∷ []) (element 1 0 (int 7 ∷ [])) ≡ Some (Some (int 7) ∷ [])
  pub bound_other : accepts (present 0 (is_variable 0 0 ∷ [])) (Some (int 7) ∷ []) (element 1 0 (int 8 ∷ [])) ≡ None
  -- within one condition element, too: both attributes must be equal
  pub twice_same : accepts (present 0 (Bind 0 0 ∷ is_variable 1 0 ∷ [])) (None ∷ []) (element 1 0 (int 7 ∷ int 7 ∷ [])) ≡ Some (Some (int 7) ∷ [])
  pub twice_other : accepts (present 0 (Bind 0 0 ∷ is_variable 1 0 ∷ [])) (None ∷ []) (element 1 0 (int 7 ∷ int 8 ∷ [])) ≡ None
  -- a variable without a value is equal to nothing
  pub compared_unbound : accepts (present 0 (is_variable 0 0 ∷ [])) (None ∷ []) (element 1 0 (int 7 ∷ [])) ≡ None
  pub one_of : accepts (present 0 (OneOf 0 (int 4 ∷ Sym 7 ∷ []) ∷ [])) [] (element 4 0 (Sym 7 ∷ [])) ≡ Some []
  pub none_of : accepts (present 0 (OneOf 0 (int 4 ∷ Sym 7 ∷ []) ∷ [])) [] (element 4 0 (int 7 ∷ [])) ≡ None
  pub other_class : accepts (present 0 []) [] (element 1 1 (int 7 ∷ [])) ≡ None

-- an `a` with the value 1, and with a `b` of the same value beside it
abbrev pub alone : List Element
alone = element 1 0 (int 1 ∷ []) ∷ []

abbrev pub beside : List Element
beside = element 1 0 (int 1 ∷ []) ∷ element 2 1 (int 1 ∷ []) ∷ []

-- elements with the values 4, 5, 9 and red
abbrev pub four : List Element
four = element 1 0 (int 4 ∷ []) ∷ element 2 0 (int 5 ∷ []) ∷ element 3 0 (int 9 ∷ []) ∷ element 4 0 (Sym 7 ∷ []) ∷ []

pub record AreMatches : Type 0 where
  -- a negated condition element holds where nothing is accepted, and else it is the one that fails
  pub free : match_of blocked_rule (1 ∷ []) alone ≡ Ok (Some (int 1) ∷ [])
  pub blocked_by_second : match_of blocked_rule (1 ∷ []) beside ≡ Err 2
  pub absent_tag : match_of blocked_rule (5 ∷ []) alone ≡ Err 1
  pub no_tag : match_of blocked_rule [] alone ≡ Err 1
  -- all tags must be used
  pub tags_left : match_of blocked_rule (1 ∷ 1 ∷ []) alone ≡ Err 3
  pub left_blocks_right : match_of right_rule (1 ∷ []) (element 1 0 (int 1 ∷ []) ∷ element 2 1 (Sym 0 ∷ []) ∷ []) ≡ Err 2
  pub left_goes_on : match_of left_rule (1 ∷ []) (element 1 0 (int 1 ∷ []) ∷ element 2 1 (Sym 0 ∷ []) ∷ []) ≡ Ok []
  pub done_once : match_of once_rule (2 ∷ []) (element 1 0 (int 7 ∷ []) ∷ element 2 0 (int 7 ∷ []) ∷ element 3 1 (int 7 ∷ []) ∷ []) ≡ Err 2
  pub other_key : match_of once_rule (2 ∷ []) (element 1 0 (int 7 ∷ []) ∷ element 2 0 (int 8 ∷ []) ∷ element 3 1 (int 7 ∷ []) ∷ []) ≡ Ok (Some (int 8) ∷ [])
  pub empty_disjunction : match_of none_rule (1 ∷ []) four ≡ Err 1
  pub in_range : match_of mid_rule (1 ∷ []) four ≡ Ok (Some (int 4) ∷ [])
  pub excluded : match_of mid_rule (2 ∷ []) four ≡ Err 1
  pub too_great : match_of mid_rule (3 ∷ []) four ≡ Err 1
  pub symbol_in_range : match_of mid_rule (4 ∷ []) four ≡ Err 1
  pub same_type : match_of same_rule (4 ∷ []) four ≡ Ok (Some (Sym 7) ∷ [])
  pub other_type : match_of same_rule (1 ∷ []) four ≡ Err 1
  pub found : match_of find_block_rule (1 ∷ 3 ∷ []) blocks ≡ Ok (Some (Sym 10) ∷ Some (Sym 13) ∷ [])
  pub other_color : match_of find_block_rule (1 ∷ 2 ∷ []) blocks ≡ Err 2
  -- the second of two elements blocks, and so does the matched element itself
  pub second_blocks : match_of blocked_rule (1 ∷ []) (element 1 0 (int 1 ∷ []) ∷ element 2 1 (int 2 ∷ []) ∷ element 3 1 (int 1 ∷ []) ∷ []) ≡ Err 2
  pub blocks_itself : match_of self_rule (1 ∷ []) (element 1 0 (int 7 ∷ []) ∷ []) ≡ Err 2
  -- numbers count negated condition elements too, and a negated one takes no tag
  pub between : match_of between_rule (1 ∷ 2 ∷ []) (element 1 0 (int 4 ∷ []) ∷ element 2 2 (int 5 ∷ []) ∷ []) ≡ Ok (Some (int 4) ∷ [])
  pub third_fails : match_of between_rule (1 ∷ 2 ∷ []) (element 1 0 (int 5 ∷ []) ∷ element 2 2 (int 4 ∷ []) ∷ []) ≡ Err 3
  pub tag_missing : match_of between_rule (1 ∷ []) (element 1 0 (int 4 ∷ []) ∷ element 2 2 (int 5 ∷ []) ∷ []) ≡ Err 3
  -- what a negated condition element binds is known in it alone
  pub stays_unbound : match_of local_rule (1 ∷ []) (element 1 0 [] ∷ element 2 1 (int 1 ∷ int 2 ∷ []) ∷ []) ≡ Ok (None ∷ [])
  pub local_blocks : match_of local_rule (1 ∷ []) (element 1 0 [] ∷ element 2 1 (int 1 ∷ int 1 ∷ []) ∷ []) ≡ Err 2
  pub no_goal : match_of find_block_rule (2 ∷ 3 ∷ []) blocks ≡ Err 1

-- instantiations come in rising order of rule, then of tags
pub record AreConflictSets : Type 0 where
  pub nothing_negated : conflict_set blocked alone ≡ choice 0 (1 ∷ []) ∷ []
  pub negation_blocks : conflict_set blocked beside ≡ []
  pub both_rules : conflict_set either alone ≡ choice 0 (1 ∷ []) ∷ choice 1 (1 ∷ []) ∷ []
  pub one_rule : conflict_set_of either alone (1 ∷ []) ≡ choice 1 (1 ∷ []) ∷ []
  pub two_elements : conflict_set once (element 1 0 (int 7 ∷ []) ∷ element 2 0 (int 7 ∷ []) ∷ []) ≡ choice 0 (1 ∷ []) ∷ choice 0 (2 ∷ []) ∷ []
  pub predicates_choose : conflict_set ranges four ≡ choice 1 (1 ∷ []) ∷ choice 2 (4 ∷ []) ∷ []
  pub joined_by_color : conflict_set find_block blocks ≡ choice 0 (1 ∷ 3 ∷ []) ∷ []
  -- two positive condition elements may match one element
  pub same_element_twice : conflict_set (record { classes = []; rules = record { name = 1; vars = 0; positives = 2; conds = present 0 [] ∷ present 0 [] ∷ []; actions = [] } ∷ []; makes = [] }) (element 3 0 [] ∷ element 8 0 [] ∷ [])
      ≡ choice 0 (3 ∷ 3 ∷ []) ∷ choice 0 (3 ∷ 8 ∷ []) ∷ choice 0 (8 ∷ 3 ∷ []) ∷ choice 0 (8 ∷ 8 ∷ []) ∷ []
  -- rule before tags
  pub rule_first : conflict_set (record { classes = []; rules = plain_rule [] ∷ plain_rule [] ∷ []; makes = [] }) (element 1 0 [] ∷ element 2 0 [] ∷ [])
      ≡ choice 0 (1 ∷ []) ∷ choice 0 (2 ∷ []) ∷ choice 1 (1 ∷ []) ∷ choice 1 (2 ∷ []) ∷ []
