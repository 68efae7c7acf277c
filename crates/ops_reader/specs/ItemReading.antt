-- What one more token makes of a part of an item of a `write`.
use Rattle.std.specs.Prelude.{Some, None}
use Rattle.ops_text.specs.Names.{Names}
use Rattle.ops_tokens.specs.declared.token.Keyword.TheVariants as a_keyword
use Rattle.ops_reader.specs.declared.form.FormTerm.TheVariants as a_term
use Rattle.ops_reader.specs.declared.form.FormItem.{FormItem}
use Rattle.ops_reader.specs.declared.form.FormItem.TheVariants as an_item
use Rattle.ops_reader.specs.declared.part.Step.{Step}
use Rattle.ops_reader.specs.declared.part.Step.TheVariants.{Part, Whole}
use Rattle.ops_reader.specs.declared.part.ItemPart.{ItemPart}
use Rattle.ops_reader.specs.declared.part.ItemPart.TheVariants as of_item
use Rattle.ops_tokens.specs.Token.{Token, Open, Close, Plain}
use Rattle.ops_reader.specs.Taken.{Taken, number_up_to, grown, made, around}
use Rattle.ops_reader.specs.ExpressionReading.{expression_after}
use Rattle.ops_reader.specs.TermReading.{value_of, no_expression}

-- the first token of an item
abbrev pub item_begun : Names → Token → Taken (Step ItemPart FormItem)
item_begun names Open = Some (names, Part of_item.Head)
item_begun names token = made an_item.Put (value_of names token)

-- the word behind the bracket of an item, which gets no number
abbrev pub item_head : Names → Token → Taken (Step ItemPart FormItem)
item_head names (Plain word (Some a_keyword.Compute)) = Some (names, Part (of_item.Compute no_expression))
item_head names (Plain word (Some a_keyword.Crlf)) = Some (names, Part (of_item.Closing an_item.Crlf))
item_head names (Plain word (Some a_keyword.Tabto)) = Some (names, Part of_item.Tabto)
item_head names (Plain word (Some a_keyword.Rjust)) = Some (names, Part of_item.Rjust)
item_head names token = None

-- any part of an item
abbrev pub item_after : Names → ItemPart → Token → Taken (Step ItemPart FormItem)
item_after names of_item.Nothing token = item_begun names token
item_after names of_item.Head token = item_head names token
item_after names (of_item.Compute part) token =
    around (λ p. Part (of_item.Compute p)) (λ e. Whole (an_item.Put (a_term.Compute e))) (expression_after names part token)
item_after names of_item.Tabto token = grown (λ column. of_item.Closing (an_item.Tabto column)) (number_up_to 255 names token)
item_after names of_item.Rjust token = grown (λ width. of_item.Closing (an_item.Rjust width)) (number_up_to 255 names token)
item_after names (of_item.Closing item) Close = Some (names, Whole item)
item_after names part token = None
