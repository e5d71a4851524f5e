-- No bound of a tree is a missing one.
use Rattle.std.proofs.Common.{◌≡◌, refl, sym, ap, ◌∙◌, subst, Bool, false, if◌then◌else◌, pos, List, [], ◌∷◌, ◌++◌, map, Option, Some, None}
use Rattle.std.specs.Option.{option_map}
use Rattle.std.proofs.lemmas.List.{append-nil}
use Rattle.ess_semantics.specs.Trees as pure
use Rattle.ess_semantics.specs.Trees.{Exs, no_exs, more_exs, Ends, one_value, both_ends, low_end, high_end, int_dom}
use Rattle.ess_semantics.specs.Values.{Text}
use Rattle.ess_core.specs.TreeViews.{With, words_of, within, exs_of, span, pure_ex, pure_dom, pure_range, pure_repr, pure_exs}
use Rattle.ess_core.specs.declared.domains.Dom.{Dom, out-Dom, roll-Dom, roll-out-Dom}
use Rattle.ess_core.specs.declared.domains.FieldDom.{FieldDom}
use Rattle.ess_core.specs.declared.domains.Range.{Range, out-Range, roll-Range, roll-out-Range}
use Rattle.ess_core.specs.declared.domains.Attr.{Attr}
use Rattle.ess_core.specs.declared.expressions.Ex.{Ex, out-Ex, roll-Ex, roll-out-Ex}
use Rattle.ess_core.specs.declared.expressions.Step.{Step}
use Rattle.ess_core.specs.declared.expressions.FieldEx.{FieldEx}
use Rattle.ess_core.specs.declared.expressions.PairEx.{PairEx}
use Rattle.ess_core.specs.declared.expressions.Gen.{Gen}
use Rattle.ess_core.specs.declared.expressions.View.{View, out-View}
use Rattle.ess_core.specs.declared.domains.Dom.TheVariants as dom
use Rattle.ess_core.specs.declared.domains.Range.TheVariants as range
use Rattle.ess_core.specs.declared.expressions.Ex.TheVariants as variant
use Rattle.ess_core.specs.declared.domains.Dom.TheOpen.{Dom-F, Range-F, Ex-F}
use Rattle.ess_core.proofs.DomainEquations as domains
use Rattle.ess_core.proofs.ExpressionEquations.{pure_num, pure_truth, pure_name, pure_one, pure_two, pure_call, pure_at, pure_apply, pure_tuple, pure_rec, pure_set, pure_mset, pure_function, pure_relation, pure_partition, pure_comp, pure_cell, pure_seen, pure_plain_matrix, pure_matrix_on}
use Rattle.ess_core.proofs.PartEquations.{pure_range_one, pure_range_span, pure_view_is}
use Rattle.ess_repr_declare_laws.specs.SizeTerms.{lacks_bounds, is_missing, bound_or_0}

-- ---- ranges

-- A range of one word that says that it lacks its bounds.
abbrev lacking : With Ends → Bool
lacking w = lacks_bounds (int_dom (w.0 ∷ []) (exs_of w.1))

span-has : (low high : Option pure.Ex) → lacking (span low high) ≡ false
span-has None None = refl
span-has None (Some b) = refl
span-has (Some a) None = refl
span-has (Some a) (Some b) = refl

range-layer : (x : Range-F Dom Range Ex Gen Step Attr FieldDom FieldEx PairEx View) → lacking (pure_range (roll-Range x)) ≡ false
range-layer (Range-F.Range::One e) = ap (λ y. lacking (pure_range y)) (range.rolls-One e) ∙ ap lacking (pure_range_one e)
range-layer (Range-F.Span low high) =
    ap (λ y. lacking (pure_range y)) (range.rolls-Span low high) ∙ ap lacking (pure_range_span low high) ∙ span-has (option_map pure_ex low) (option_map pure_ex high)

range-has : (r : Range) → lacking (pure_range r) ≡ false
range-has r = subst (λ y. lacking (pure_range y) ≡ false) (roll-out-Range r) (range-layer (out-Range r))

one-range : (w : With Ends) → lacks_bounds (int_dom (w.0 ∷ []) (exs_of (w.1 ++ []))) ≡ lacking w
one-range w = ap (λ es. lacks_bounds (int_dom (w.0 ∷ []) (exs_of es))) (append-nil w.1)

many : (v w : Ends) (ws : List Ends) (es : Exs) → lacks_bounds (int_dom (v ∷ w ∷ ws) es) ≡ false
many one_value w ws es = refl
many both_ends w ws es = refl
many low_end w ws es = refl
many high_end w ws es = refl

ranges-have : (rs : List Range) → lacks_bounds (int_dom (words_of (map pure_range rs)) (exs_of (within (map pure_range rs)))) ≡ false
ranges-have [] = refl
ranges-have (r ∷ []) = one-range (pure_range r) ∙ range-has r
ranges-have (r ∷ s ∷ rs) = many (pure_range r).0 (pure_range s).0 (words_of (map pure_range rs)) (exs_of (within (map pure_range (r ∷ s ∷ rs))))

-- ---- domains

dom-layer : (x : Dom-F Dom Range Ex Gen Step Attr FieldDom FieldEx PairEx View) → lacks_bounds (pure_dom (roll-Dom x)) ≡ false
dom-layer Dom-F.Bool = ap (λ y. lacks_bounds (pure_dom y)) dom.rolls-Bool ∙ ap lacks_bounds domains.pure_bool
dom-layer (Dom-F.Int rs) = ap (λ y. lacks_bounds (pure_dom y)) (dom.rolls-Int rs) ∙ ap lacks_bounds (domains.pure_int rs) ∙ ranges-have rs
dom-layer (Dom-F.Dom::Name a) = ap (λ y. lacks_bounds (pure_dom y)) (dom.rolls-Name a) ∙ ap lacks_bounds (domains.pure_name a)
dom-layer (Dom-F.Dom::Tuple ds) = ap (λ y. lacks_bounds (pure_dom y)) (dom.rolls-Tuple ds) ∙ ap lacks_bounds (domains.pure_tuple ds)
dom-layer (Dom-F.Dom::Rec fs) = ap (λ y. lacks_bounds (pure_dom y)) (dom.rolls-Rec fs) ∙ ap lacks_bounds (domains.pure_rec fs)
dom-layer (Dom-F.Dom::Matrix is d) = ap (λ y. lacks_bounds (pure_dom y)) (dom.rolls-Matrix is d) ∙ ap lacks_bounds (domains.pure_matrix is d)
dom-layer (Dom-F.Dom::Set ms d) = ap (λ y. lacks_bounds (pure_dom y)) (dom.rolls-Set ms d) ∙ ap lacks_bounds (domains.pure_set ms d)
dom-layer (Dom-F.Dom::MSet ms d) = ap (λ y. lacks_bounds (pure_dom y)) (dom.rolls-MSet ms d) ∙ ap lacks_bounds (domains.pure_mset ms d)
dom-layer (Dom-F.Dom::Function ms c d) = ap (λ y. lacks_bounds (pure_dom y)) (dom.rolls-Function ms c d) ∙ ap lacks_bounds (domains.pure_function ms c d)
dom-layer (Dom-F.Dom::Relation ms ds) = ap (λ y. lacks_bounds (pure_dom y)) (dom.rolls-Relation ms ds) ∙ ap lacks_bounds (domains.pure_relation ms ds)
dom-layer (Dom-F.Dom::Partition ms d) = ap (λ y. lacks_bounds (pure_dom y)) (dom.rolls-Partition ms d) ∙ ap lacks_bounds (domains.pure_partition ms d)

dom-has : (d : Dom) → lacks_bounds (pure_dom d) ≡ false
dom-has d = subst (λ y. lacks_bounds (pure_dom y) ≡ false) (roll-out-Dom d) (dom-layer (out-Dom d))

-- ---- expressions

ex-layer : (x : Ex-F Dom Range Ex Gen Step Attr FieldDom FieldEx PairEx View) → is_missing (pure_ex (roll-Ex x)) ≡ false
ex-layer (Ex-F.Num n) = ap (λ y. is_missing (pure_ex y)) (variant.rolls-Num n) ∙ ap is_missing (pure_num n)
ex-layer (Ex-F.Truth b) = ap (λ y. is_missing (pure_ex y)) (variant.rolls-Truth b) ∙ ap is_missing (pure_truth b)
ex-layer (Ex-F.Ex::Name a) = ap (λ y. is_missing (pure_ex y)) (variant.rolls-Name a) ∙ ap is_missing (pure_name a)
ex-layer (Ex-F.Ex::One o a) = ap (λ y. is_missing (pure_ex y)) (variant.rolls-One o a) ∙ ap is_missing (pure_one o a)
ex-layer (Ex-F.Two o a b) = ap (λ y. is_missing (pure_ex y)) (variant.rolls-Two o a b) ∙ ap is_missing (pure_two o a b)
ex-layer (Ex-F.Call b f es) = ap (λ y. is_missing (pure_ex y)) (variant.rolls-Call b f es) ∙ ap is_missing (pure_call b f es)
ex-layer (Ex-F.At b e ss) = ap (λ y. is_missing (pure_ex y)) (variant.rolls-At b e ss) ∙ ap is_missing (pure_at b e ss)
ex-layer (Ex-F.Apply b f es) = ap (λ y. is_missing (pure_ex y)) (variant.rolls-Apply b f es) ∙ ap is_missing (pure_apply b f es)
ex-layer (Ex-F.Ex::Tuple es) = ap (λ y. is_missing (pure_ex y)) (variant.rolls-Tuple es) ∙ ap is_missing (pure_tuple es)
ex-layer (Ex-F.Ex::Rec fs) = ap (λ y. is_missing (pure_ex y)) (variant.rolls-Rec fs) ∙ ap is_missing (pure_rec fs)
ex-layer (Ex-F.Ex::Set es) = ap (λ y. is_missing (pure_ex y)) (variant.rolls-Set es) ∙ ap is_missing (pure_set es)
ex-layer (Ex-F.Ex::MSet es) = ap (λ y. is_missing (pure_ex y)) (variant.rolls-MSet es) ∙ ap is_missing (pure_mset es)
ex-layer (Ex-F.Ex::Function ps) = ap (λ y. is_missing (pure_ex y)) (variant.rolls-Function ps) ∙ ap is_missing (pure_function ps)
ex-layer (Ex-F.Ex::Relation es) = ap (λ y. is_missing (pure_ex y)) (variant.rolls-Relation es) ∙ ap is_missing (pure_relation es)
ex-layer (Ex-F.Ex::Partition es) = ap (λ y. is_missing (pure_ex y)) (variant.rolls-Partition es) ∙ ap is_missing (pure_partition es)
ex-layer (Ex-F.Comp e gs) = ap (λ y. is_missing (pure_ex y)) (variant.rolls-Comp e gs) ∙ ap is_missing (pure_comp e gs)
ex-layer (Ex-F.Cell b a es) = ap (λ y. is_missing (pure_ex y)) (variant.rolls-Cell b a es) ∙ ap is_missing (pure_cell b a es)
ex-layer (Ex-F.Ex::Matrix es None) = ap (λ y. is_missing (pure_ex y)) (variant.rolls-Matrix es None) ∙ ap is_missing (pure_plain_matrix es)
ex-layer (Ex-F.Ex::Matrix es (Some d)) = ap (λ y. is_missing (pure_ex y)) (variant.rolls-Matrix es (Some d)) ∙ ap is_missing (pure_matrix_on es d)
ex-layer (Ex-F.Seen v) =
    ap (λ y. is_missing (pure_ex y)) (variant.rolls-Seen v) ∙ ap is_missing (pure_seen v ∙ pure_view_is v) ∙ dom-has (out-View v).dom

-- What an expression stands for is no missing bound.
pub there : (e : Ex) → is_missing (pure_ex e) ≡ false
there e = subst (λ y. is_missing (pure_ex y) ≡ false) (roll-out-Ex e) (ex-layer (out-Ex e))

pub bound_there : (e : Ex) → bound_or_0 (pure_ex e) ≡ pure_ex e
bound_there e = ap (λ b. if b then pure.number_ex (pos 0) else pure_ex e) (there e)
