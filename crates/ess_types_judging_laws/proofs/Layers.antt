-- What is found of an expression, layer by layer: of each kind of node from what is found of the parts in it.
use Rattle.std.proofs.Common.{◌≡◌, refl, sym, ap, ◌∙◌, Bool, true, ◌&&◌, not, List, [], Option, option_map, ℤ}
use Rattle.std.specs.Prelude.{is_some}
use Rattle.ess_semantics.specs.Lists.{is_some_and}
use Rattle.ess_semantics.specs.Values.{Text, a_matrix}
use Rattle.ess_semantics.specs.Names.{look}
use Rattle.ess_semantics.specs.Trees.{Op, record_literal, Repr, Ex, Exs, number_ex, truth_ex, name_ex, node_ex, matrix_ex, comp_ex, cell_ex, seen_ex, Gens, Dom}
use Rattle.ess_semantics.specs.Types.{Ty, compound2, bool_ty, int_ty, type_of_dom}
use Rattle.ess_semantics.specs.Typing.{statics, type_of_node, type_of, types_of}
use Rattle.ess_semantics.specs.Lettings.{field_flags}
use Rattle.ess_semantics.specs.Kinds.{is_atom}
use Rattle.ess_semantics.specs.Scopes.{Scope, Asked, every, every_under}
use Rattle.ess_semantics.specs.ExpressionJudgements.{part_fits, is_list, forgets_order, orders_fit}
use Rattle.ess_types_judging_laws.specs.Found.{Found, all_well, both, at_place}
use Rattle.ess_types_judging_laws.specs.Judged.{Judged, judged, judged_all, judged_dom, found_in, fitting_types, finite_domains, enumerable_domains}
use Rattle.ess_types_judging_laws.specs.Combined.{flags_of, operands_found, layer, literal_judged, name_judged, node_fits, node_judged, matrix_ty, matrix_judged, cell_judged, view_judged, Gathered, nothing_gathered, gathered, comp_judged}
use Rattle.ess_types_judging_laws.proofs.Truths.{and_same, and_true, found-same}
use Rattle.ess_types_judging_laws.proofs.Fixed.{no_known_finds}
use Rattle.ess_types_judging_laws.proofs.Operands.{Answers, types-judged, flags-found, operands-judged, operands-order, operands-unordered}
use Rattle.ess_types_judging_laws.proofs.Gathering.{GeneratorAnswers, under-gathered, order-gathered, unordered-gathered, ordered-gathered, typed-gathered}
use Rattle.ess_types_judging_laws.proofs.Answered.{known_names_asking, new_names_asking, known-answers, known-generators, new-answers, new-generators, fits-answers, fits-generators, fixed-answers, fixed-generators, finite-answers, finite-generators, enumerable-answers, enumerable-generators}

-- What is found of an expression, where names that depend on finds are known in the whole of it.
abbrev pub found_asking : Ex → Scope → Found
found_asking e s =
    record (found_in e s) { known = every known_names_asking e s; new = every new_names_asking e s; fixed = every no_known_finds e s }

-- It is the same.
pub found-asking : (e : Ex) (s : Scope) → found_in e s ≡ found_asking e s
found-asking e s =
    found-same (found_in e s) (found_asking e s) (known-answers.exs e s) (new-answers.exs e s) refl (fixed-answers.exs e s) refl refl refl
    refl

-- What is judged is one where type, order and findings are.
pub judged-same : (j k : Judged) → j.ty ≡ k.ty → j.ordered ≡ k.ordered → j.found ≡ k.found → j ≡ k
judged-same j k t o f =
    ap (λ x. record j { ty = x }) t ∙ ap (λ x. record j { ty = k.ty; ordered = x }) o ∙ ap (λ x. record k { found = x }) f

-- ---- leaves

pub judged_number : (n : ℤ) (s : Scope) → judged (number_ex n) s ≡ literal_judged int_ty
judged_number n s = refl

pub judged_truth : (b : Bool) (s : Scope) → judged (truth_ex b) s ≡ literal_judged bool_ty
judged_truth b s = refl

pub judged_name : (a : Text) (s : Scope) → judged (name_ex a) s ≡ name_judged a s
judged_name a s =
    judged-same (judged (name_ex a) s) (name_judged a s) refl refl
    (found-same (found_in (name_ex a) s) (name_judged a s).found refl refl (and_true (is_some (look s.tys a))) refl refl refl refl refl)

-- ---- nodes

part-node : (b : Bool) (op : Op) (es : Exs) (s : Scope) → node_fits op (types_of es s.tys) s ≡ part_fits (node_ex b op es) s
part-node b (record_literal fs) es s = refl
part-node b _ es s = refl

-- A node, from its operands with the types that they have.
abbrev node_from : Op → Exs → List (Option Ty) → Scope → Judged
node_from op es us s =
    let t : Option Ty = type_of_node op (statics es) us in
    record {
      ty = t;
      ordered = is_some_and t is_list;
      found =
          both (layer (is_some t && node_fits op us s))
          (operands_found (not (forgets_order op)) (flags_of op (statics es) us) (judged_all es s));
    }

-- The same with the flags that the operands have.
abbrev node_with : Op → Exs → List Bool → Scope → Judged
node_with op es bs s =
    let t : Option Ty = type_of_node op (statics es) (types_of es s.tys) in
    record {
      ty = t;
      ordered = is_some_and t is_list;
      found = both (layer (is_some t && node_fits op (types_of es s.tys) s)) (operands_found (not (forgets_order op)) bs (judged_all es s));
    }

node-found : (b : Bool) (op : Op) (es : Exs) (s : Scope) →
    found_asking (node_ex b op es) s ≡ (node_with op es (field_flags op es s.tys) s).found
node-found b op es s =
    found-same (found_asking (node_ex b op es) s) (node_with op es bs s).found
    (sym (operands-judged (λ f. f.known) known_names_asking known-answers c bs es s))
    (sym (operands-judged (λ f. f.new) new_names_asking new-answers c bs es s))
    (and_same _ _ _ _ (ap (λ x. is_some (type_of (node_ex b op es) s.tys) && x) (sym (part-node b op es s)))
    (sym (operands-judged (λ f. f.fits) fitting_types fits-answers c bs es s)))
    (sym (operands-judged (λ f. f.fixed) no_known_finds fixed-answers c bs es s))
    (sym (operands-order c bs es s)) (sym (operands-unordered c bs es s))
    (sym (operands-judged (λ f. f.finite) finite_domains finite-answers c bs es s))
    (sym (operands-judged (λ f. f.enumerable) enumerable_domains enumerable-answers c bs es s))
  where
    c : Bool
    c = not (forgets_order op)

    bs : List Bool
    bs = field_flags op es s.tys

pub judged_node : (b : Bool) (op : Op) (es : Exs) (s : Scope) → judged (node_ex b op es) s ≡ node_judged op (statics es) (judged_all es s) s
judged_node b op es s =
    judged-same (judged (node_ex b op es) s) (node_with op es (field_flags op es s.tys) s) refl refl
    (found-asking (node_ex b op es) s ∙ node-found b op es s)
    ∙ ap (λ bs. node_with op es bs s) (sym (flags-found op es s)) ∙ ap (λ us. node_from op es us s) (sym (types-judged es s))

-- ---- matrices, cells, views

-- A matrix literal, from its items with the types that they have.
abbrev matrix_from : Dom → Exs → List (Option Ty) → Scope → Judged
matrix_from d es us s =
    let t : Option Ty = matrix_ty (type_of_dom d) us in
    record {
      ty = t;
      ordered = is_some_and t is_list;
      found = both (both (layer (is_some t && is_atom d)) (operands_found true [] (judged_all es s))) (judged_dom d s);
    }

matrix-found : (es : Exs) (d : Dom) (s : Scope) → found_asking (matrix_ex es d) s ≡ (matrix_from d es (types_of es s.tys) s).found
matrix-found es d s =
    found-same (found_asking (matrix_ex es d) s) (matrix_from d es (types_of es s.tys) s).found
    (and_same _ _ _ _ (sym (operands-judged (λ f. f.known) known_names_asking known-answers true [] es s)) (sym (known-answers.doms d s)))
    (and_same _ _ _ _ (sym (operands-judged (λ f. f.new) new_names_asking new-answers true [] es s)) (sym (new-answers.doms d s)))
    (and_same _ _ _ _
    (ap (λ x. (is_some (type_of (matrix_ex es d) s.tys) && is_atom d) && x)
    (sym (operands-judged (λ f. f.fits) fitting_types fits-answers true [] es s)))
    refl)
    (and_same _ _ _ _ (sym (operands-judged (λ f. f.fixed) no_known_finds fixed-answers true [] es s)) (sym (fixed-answers.doms d s)))
    (and_same _ _ _ _ (sym (operands-order true [] es s)) refl) (and_same _ _ _ _ (sym (operands-unordered true [] es s)) refl)
    (and_same _ _ _ _ (sym (operands-judged (λ f. f.finite) finite_domains finite-answers true [] es s)) refl)
    (and_same _ _ _ _ (sym (operands-judged (λ f. f.enumerable) enumerable_domains enumerable-answers true [] es s)) refl)

pub judged_matrix : (es : Exs) (d : Dom) (s : Scope) → judged (matrix_ex es d) s ≡ matrix_judged d (judged_dom d s) (judged_all es s)
judged_matrix es d s =
    judged-same (judged (matrix_ex es d) s) (matrix_from d es (types_of es s.tys) s) refl refl
    (found-asking (matrix_ex es d) s ∙ matrix-found es d s)
    ∙ ap (λ us. matrix_from d es us s) (sym (types-judged es s))

pub judged_cell : (b : Bool) (n : Text) (es : Exs) (s : Scope) → judged (cell_ex b n es) s ≡ cell_judged b n (judged_all es s) s
judged_cell b n es s =
    judged-same (judged (cell_ex b n es) s) (cell_judged b n (judged_all es s) s) refl refl
    (found-asking (cell_ex b n es) s
    ∙ found-same (found_asking (cell_ex b n es) s) (operands_found true [] (judged_all es s))
    (sym (operands-judged (λ f. f.known) known_names_asking known-answers true [] es s))
    (sym (operands-judged (λ f. f.new) new_names_asking new-answers true [] es s))
    (sym (operands-judged (λ f. f.fits) fitting_types fits-answers true [] es s))
    (sym (operands-judged (λ f. f.fixed) no_known_finds fixed-answers true [] es s))
    (sym (operands-order true [] es s)) (sym (operands-unordered true [] es s))
    (sym (operands-judged (λ f. f.finite) finite_domains finite-answers true [] es s))
    (sym (operands-judged (λ f. f.enumerable) enumerable_domains enumerable-answers true [] es s)))

pub judged_view : (r : Repr) (d : Dom) (ns : List Text) (es : Exs) (s : Scope) →
    judged (seen_ex r d ns es) s ≡ view_judged d (judged_dom d s) (judged_all es s)
judged_view r d ns es s =
    judged-same (judged (seen_ex r d ns es) s) (view_judged d (judged_dom d s) (judged_all es s)) refl refl
    (found-asking (seen_ex r d ns es) s
    ∙ found-same (found_asking (seen_ex r d ns es) s) (both (judged_dom d s) (operands_found true [] (judged_all es s)))
    (and_same _ _ _ _ (sym (known-answers.doms d s)) (sym (operands-judged (λ f. f.known) known_names_asking known-answers true [] es s)))
    (and_same _ _ _ _ (sym (new-answers.doms d s)) (sym (operands-judged (λ f. f.new) new_names_asking new-answers true [] es s)))
    (and_same _ _ _ _ refl (sym (operands-judged (λ f. f.fits) fitting_types fits-answers true [] es s)))
    (and_same _ _ _ _ (sym (fixed-answers.doms d s)) (sym (operands-judged (λ f. f.fixed) no_known_finds fixed-answers true [] es s)))
    (and_same _ _ _ _ refl (sym (operands-order true [] es s))) (and_same _ _ _ _ refl (sym (operands-unordered true [] es s)))
    (and_same _ _ _ _ refl (sym (operands-judged (λ f. f.finite) finite_domains finite-answers true [] es s)))
    (and_same _ _ _ _ refl (sym (operands-judged (λ f. f.enumerable) enumerable_domains enumerable-answers true [] es s))))

-- ---- comprehensions

-- What stands under generators, found as asked.
module _ (of : Found → Bool) (q : Asked) (h : Answers of q) (i : GeneratorAnswers of q) where
  comp-asked : (e : Ex) (gs : Gens) (s : Scope) →
      every_under q gs s (every q e)
      ≡ of (both (gathered gs (nothing_gathered s)).found (at_place true (judged e (gathered gs (nothing_gathered s)).scope).found))
  comp-asked e gs s =
      sym (under-gathered of q h i gs (nothing_gathered s) (every q e) ∙ ap (λ b. b && every_under q gs s (every q e)) h.well)
      ∙ sym (h.both a.found (at_place true (judged e a.scope).found)
      ∙ ap (λ b. of a.found && b) (h.placed true (judged e a.scope).found ∙ h.exs e a.scope))
    where
      a : Gathered
      a = gathered gs (nothing_gathered s)

-- The type of a comprehension.
comp-type : (e : Ex) (gs : Gens) (s : Scope) →
    type_of (comp_ex e gs) s.tys
    ≡ (comp_judged (gathered gs (nothing_gathered s)) (judged e (gathered gs (nothing_gathered s)).scope)).ty
comp-type e gs s = sym (typed-gathered gs (nothing_gathered s) (λ h. option_map (compound2 a_matrix int_ty) (type_of e h)))

-- A comprehension whose type is t.
abbrev comp_of_type : Option Ty → Gathered → Judged → Judged
comp_of_type t a j =
    record {
      ty = t;
      ordered = a.ordered;
      found = both (record all_well { fits = is_some t; in_order = a.ordered }) (both a.found (at_place true j.found));
    }

pub judged_comp : (e : Ex) (gs : Gens) (s : Scope) →
    judged (comp_ex e gs) s ≡ comp_judged (gathered gs (nothing_gathered s)) (judged e (gathered gs (nothing_gathered s)).scope)
judged_comp e gs s =
    judged-same (judged (comp_ex e gs) s) (comp_of_type t a j) refl (sym (ordered-gathered gs (nothing_gathered s)))
    (found-asking (comp_ex e gs) s
    ∙ found-same (found_asking (comp_ex e gs) s) (comp_of_type t a j).found
    (comp-asked (λ f. f.known) known_names_asking known-answers known-generators e gs s)
    (comp-asked (λ f. f.new) new_names_asking new-answers new-generators e gs s)
    (and_same _ _ _ _ (and_true (is_some t)) (comp-asked (λ f. f.fits) fitting_types fits-answers fits-generators e gs s))
    (comp-asked (λ f. f.fixed) no_known_finds fixed-answers fixed-generators e gs s)
    (and_same _ _ _ _ (sym (ordered-gathered gs (nothing_gathered s))) (sym (order-gathered gs (nothing_gathered s) (orders_fit true e))))
    (sym (unordered-gathered gs (nothing_gathered s) (orders_fit true e)))
    (comp-asked (λ f. f.finite) finite_domains finite-answers finite-generators e gs s)
    (comp-asked (λ f. f.enumerable) enumerable_domains enumerable-answers enumerable-generators e gs s))
    ∙ ap (λ o. comp_of_type o a j) (comp-type e gs s)
  where
    t : Option Ty
    t = type_of (comp_ex e gs) s.tys

    a : Gathered
    a = gathered gs (nothing_gathered s)

    j : Judged
    j = judged e a.scope
