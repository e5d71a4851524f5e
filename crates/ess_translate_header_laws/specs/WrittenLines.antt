-- The lines as which a header is written: its version, each statement as it is printed, each name with its representations, and
-- the end.
use Rattle.std.specs.Prelude.{◌≡◌, Bool, false, List, [], ◌∷◌, ◌++◌, map, flat_map, None, IsTrue, codes}
use Rattle.std.specs.List.{list_all}
use Rattle.ess_semantics.specs.Values.{Text}
use Rattle.ess_semantics.specs.Names.{Names}
use Rattle.ess_semantics.specs.Trees.{Repr}
use Rattle.ess_semantics.specs.Contexts.{Each}
use Rattle.ess_semantics.specs.ModelTrees.{Header}
use Rattle.ess_grammar.specs.Tokens.{lexed}
use Rattle.ess_grammar.specs.Load.{too_deep}
use Rattle.ess_grammar.specs.Readable.{is_name_token, ReadableStms}
use Rattle.ess_print_laws.specs.Texts.{stm_text, repr_text}

-- One more representation behind others.
abbrev pub next_repr_text : Repr → Text
next_repr_text r = codes " + " ++ repr_text r

-- Representations with ` + ` between.
abbrev pub reprs_text : List Repr → Text
reprs_text [] = []
reprs_text (r ∷ rs) = repr_text r ++ flat_map next_repr_text rs

-- A name with its representations.
abbrev pub reprs_line_text : Text → List Repr → Text
reprs_line_text a rs = codes "repr " ++ (a ++ (codes " " ++ reprs_text rs))

-- The lines for the representations.
abbrev pub reprs_line_texts : Names (List Repr) → List Text
reprs_line_texts cs = map (λ c. reprs_line_text c.0 c.1) cs

-- All lines.
abbrev pub header_texts : Header → List Text
header_texts H = codes "conjure-header 1" ∷ (map stm_text H.statements ++ (reprs_line_texts H.reprs ++ codes "end-header" ∷ []))

-- Whether a name that can be read has a representation.
abbrev pub is_named : Text → List Repr → Bool
is_named a [] = false
is_named a (r ∷ rs) = is_name_token a

-- A header that can be read: so can its statements, and each name has a representation.
pub record ReadableHeader (H : Header) : Type 0 where
  pub statements : ReadableStms H.statements
  pub reprs : IsTrue (list_all (λ c. is_named c.0 c.1) H.reprs)

-- The load of each line is within the limit.
abbrev pub AreShallow : List Text → Type 0
AreShallow ls = Each ls (λ l. too_deep (lexed l) ≡ None)
