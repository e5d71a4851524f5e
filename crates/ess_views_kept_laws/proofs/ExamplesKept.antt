-- Worked examples of the conditions of these laws.
use Rattle.std.specs.Prelude.{◌≡◌, refl, true, false, [], ◌∷◌}
use Rattle.ess_semantics.specs.declared.words.Op1.{Op1}
use Rattle.ess_semantics.specs.declared.words.Op2.{Op2}
use Rattle.ess_semantics.specs.declared.words.Fun.{Fun}
use Rattle.ess_semantics.specs.declared.words.ReprKind.{ReprKind}
use Rattle.ess_semantics.specs.Trees.{repr, no_reprs, Ex, seen_ex, ex1, ex2, fun1, no_exs, Dom, bool_dom}
use Rattle.ess_semantics.proofs.Shorthands.{n, upto}
use Rattle.ess_rules_laws.proofs.ExamplesSetListings.{s}
use Rattle.ess_views_kept_laws.specs.ComponentsKept.{fits_place}
use Rattle.ess_views_kept_laws.specs.ChildrenKept.{asked_view}

abbrev atom_of : Dom → Ex
atom_of d = seen_ex (repr ReprKind.Atom no_reprs) d (s ∷ []) no_exs

truth_fits : fits_place true (atom_of bool_dom) ≡ true
truth_fits = refl

truth_fits_anywhere : fits_place false (atom_of bool_dom) ≡ true
truth_fits_anywhere = refl

number_fits_no_truth : fits_place true (atom_of (upto 9)) ≡ false
number_fits_no_truth = refl

number_fits : fits_place false (atom_of (upto 9)) ≡ true
number_fits = refl

of_member : asked_view (ex2 true Op2.Member (n 1) (atom_of bool_dom)) ≡ atom_of bool_dom
of_member = refl

of_pair : asked_view (ex2 true Op2.Member (n 1) (fun1 false Fun.ToRelation (atom_of bool_dom))) ≡ atom_of bool_dom
of_pair = refl

of_parts : asked_view (ex1 false Op1.Bar (fun1 false Fun.Parts (atom_of bool_dom))) ≡ atom_of bool_dom
of_parts = refl

of_size : asked_view (ex1 false Op1.Bar (atom_of bool_dom)) ≡ atom_of bool_dom
of_size = refl
