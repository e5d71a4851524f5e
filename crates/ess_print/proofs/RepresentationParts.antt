-- How a representation is printed from its parts.
use Rattle.std.proofs.Common.{◌≡◌, refl, sym, ap, ◌∙◌, subst, List, [], ◌∷◌, ◌++◌, map, codes}
use Rattle.ess_semantics.specs.Values.{Text}
use Rattle.ess_semantics.specs.Choice.{reprs_of}
use Rattle.ess_semantics.specs.Trees as pure
use Rattle.ess_grammar.specs.Words.{open_square, close_square}
use Rattle.ess_print_laws.specs.TokenTexts.{kind_text}
use Rattle.ess_print_laws.specs.Pieces.{Printer, sign, named}
use Rattle.ess_print_laws.specs.Parts.{commas}
use Rattle.ess_print_laws.specs.Statements.{repr_pieces, children_pieces}
use Rattle.ess_core.specs.TreeViews.{pure_repr}
use Rattle.ess_core.specs.declared.representations.Repr.{Repr}
use Rattle.ess_core.specs.declared.representations.Repr.TheViews.{out-Repr}
use Rattle.ess_core.proofs.RepresentationEquations.{pure_repr_is}
use Rattle.ess_print.specs.Written.{Puts}
use Rattle.ess_print.proofs.Writing.{puts-pieces, puts-text, puts-then, puts-as}
use Rattle.ess_print.proofs.Items.{reprs_printers, name-put}

some-children : (ps : List Printer) → (ps ≡ [] → ⊥) → {a d : Text} → Puts a d (λ us. sign open_square ∷ commas ps (sign close_square ∷ us)) → Puts a d (children_pieces ps)
some-children [] n h = absurd (n refl)
some-children (p ∷ ps) n h = h

no-printers : (rs : List Repr) → reprs_printers rs ≡ [] → rs ≡ []
no-printers [] e = refl
no-printers (r ∷ rs) e = cc

pub children-put : {rs : List Repr} {a b c d : Text} → (rs ≡ [] → ⊥) → b ≡ a ++ codes "[" → Puts b c (commas (reprs_printers rs)) → d ≡ c ++ codes "]" →
    Puts a d (children_pieces (reprs_printers rs))
children-put {rs} n f h g =
    some-children (reprs_printers rs) (λ e. n (no-printers rs e))
    (puts-then (puts-pieces (sign open_square ∷ []) f) (puts-then h (puts-pieces (sign close_square ∷ []) g)))

pub repr-put : (r : Repr) {a b c s : Text} {rs : List Repr} → b ≡ a ++ s → s ≡ kind_text (out-Repr r).kind → rs ≡ (out-Repr r).children →
    Puts b c (children_pieces (reprs_printers rs)) → Puts a c (repr_pieces (pure_repr r))
repr-put r {a} {b} {c} {s} {rs} f k e h =
    let P : List Repr → Type 0 = λ cs. Puts b c (children_pieces (reprs_printers cs)) in
    let Q : pure.Repr → Type 0 = λ q. Puts a c (repr_pieces q) in
    subst Q (sym (pure_repr_is r))
    (puts-as (repr_pieces (pure.repr (out-Repr r).kind (reprs_of (map pure_repr (out-Repr r).children)))) (λ us. refl)
    (puts-then (name-put f k) (subst P e h)))
