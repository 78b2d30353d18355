-- Parsing the operands of a list one by one. Only contracts of private functions cite this module.
use Rattle.std.specs.Prelude.{Bool, true, false, List, [], ◌∷◌, Option, Some, None}
use Rattle.mcs_source.specs.Lexical.{Token, Word, Comma}
use Rattle.mcs_source.specs.Lines.{Operand, operand_of}
use Rattle.mcs_model.specs.Options.{◌>>=◌}

-- the remaining tokens if a comma precedes them (the first argument is true), otherwise `None`
abbrev pub tokens_if_comma : Bool → List Token → Option (List Token)
tokens_if_comma true ts = Some ts
tokens_if_comma false ts = None

-- the first operand of a list, with the tokens after its comma if there is a comma
abbrev pub list_item : List Token → Option (Operand × Option (List Token))
list_item (Word w ∷ []) = operand_of w >>= λ v. Some (v, None)
list_item (Word w ∷ Comma ∷ more) = operand_of w >>= λ v. Some (v, Some more)
list_item ts = None
