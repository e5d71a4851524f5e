-- Rules of names and patterns over tuples and records of domains keep marks.
use Rattle.std.proofs.Common.{◌≡◌, refl, sym, ap, subst, Bool, true, false, not, ◌&&◌, List, [], ◌∷◌, Some}
use Rattle.std.specs.Prelude.{IsTrue}
use Rattle.ess_semantics.specs.Lists.{and_then}
use Rattle.ess_semantics.specs.Values.{Text, a_matrix}
use Rattle.ess_semantics.specs.Names.{Names}
use Rattle.ess_semantics.specs.Trees.{Pats, name_pat, tuple_pat, no_pats, more_pats, Ex, comp_ex, Gens, over, from, Dom, Doms, tuple_dom, record_dom, no_doms, more_doms}
use Rattle.ess_semantics.specs.Types.{Ty, int_ty, compound2, or_any, type_of_dom, types_of_doms, bind_types, bind_all_types}
use Rattle.ess_semantics.specs.OperatorTypes.{member_ty}
use Rattle.ess_semantics.specs.Typing.{type_of, source_ty}
use Rattle.ess_semantics.specs.NamesAt.{names_behind}
use Rattle.ess_semantics.specs.Substitution.{BindsAll}
use Rattle.ess_semantics.proofs.Tests.{and-left, and-right}
use Rattle.ess_rules_laws.specs.SplitRules.{as_many, each_over, split}
use Rattle.ess_rules_laws.specs.TupleNames.{named_pats, named_exs, are_names, tuples_over, name_over_tuple}
use Rattle.ess_refine_laws.specs.RecordNames.{are_in_order, records_over, name_over_record}
use Rattle.ess_refine_laws.specs.AllRules.{Supply, over_tuples}
use Rattle.ess_refine_laws.specs.MarksStay.{HasMarks, GensHaveMarks, DomsHaveMarks}
use Rattle.ess_refine_types_laws.specs.MarksOfContainers.{DomsUseNames}
use Rattle.ess_refine_types_laws.proofs.MarksBehind.{doms-same}
use Rattle.ess_rules_types_laws.proofs.PutListed.{past-pattern}
use Rattle.ess_rules_types_laws.proofs.TypesOfNames.{tuples-type, records-type}
use Rattle.ess_rules_marks_laws.proofs.Grows.{Grows, as_it_is, a_node, a_comp, EachGrows, none_grow, more_grow, no_gens_grow, over_grows, from_grows, gens-are, MarksGrow, grows-when}
use Rattle.ess_put_marks_laws.specs.MarksOfOthers.{PartsMarked}

yes-not : (b : Bool) → IsTrue (not b) → b ≡ false
yes-not true h = cc
yes-not false h = refl

-- ---- patterns

-- Each pattern over its domain.
each-over-marks : (r : Text → Bool) (ps : Pats) (ds : Doms) (hs : Gens) (e : Ex) (g : Names Ty) → as_many ps ds ≡ true → BindsAll r ps →
    DomsUseNames (λ a. not (r a)) ds → DomsHaveMarks ds g → GensHaveMarks hs (bind_all_types ps (types_of_doms ds) g) →
    HasMarks e (names_behind hs (bind_all_types ps (types_of_doms ds) g)) →
    HasMarks (comp_ex e (each_over ps ds hs)) g
each-over-marks r no_pats no_doms hs e g k b u d h m = (h, m)
each-over-marks r (more_pats p ps) (more_doms c ds) hs e g k b u d h m =
    let i = each-over-marks r ps ds hs e (bind_types p (type_of_dom c) g) k b.1 u.1
    (doms-same (λ a. not (r a)) ds g (bind_types p (type_of_dom c) g) u.1
    (λ a q. sym (past-pattern r p (type_of_dom c) g a b.0 (yes-not (r a) q))) d.1) h m in
    ((d.0, i.0), i.1)
each-over-marks r no_pats (more_doms c ds) hs e g k b u d h m = cc
each-over-marks r (more_pats p ps) no_doms hs e g k b u d h m = cc

pub splits : (g : Names Ty) (s : Supply) (e : Ex) → PartsMarked s g over_tuples e → MarksGrow g e (split e)
splits g s (comp_ex e (over (tuple_pat ps) (tuple_dom ds) hs)) n = grows-when g (as_many ps ds)
    (comp_ex e (over (tuple_pat ps) (tuple_dom ds) hs)) (comp_ex e (each_over ps ds hs))
    (λ c h. as_it_is (each-over-marks n.0 ps ds hs e g c n.1 n.2 h.0.0 h.0.1 h.1))
splits g s _ n = tt

-- ---- names

named-grow : (g : Names Ty) (ys : List Text) → EachGrows g (named_exs ys)
named-grow g [] = none_grow
named-grow g (y ∷ ys) = more_grow (as_it_is tt) (named-grow g ys)

module _ (g : Names Ty) where
  -- A comprehension over a term whose members have the type of a domain's.
  as-domain : (x : Text) (e t : Ex) (d : Dom) (hs : Gens) → type_of t g ≡ Some (compound2 a_matrix int_ty (type_of_dom d)) → Grows g t →
      HasMarks (comp_ex e (over (name_pat x) d hs)) g → Grows g (comp_ex e (from (name_pat x) t hs))
  as-domain x e t d hs q k h =
      let i : type_of_dom d ≡ source_ty t g = ap (λ o. or_any (and_then o member_ty)) (sym q) in
      a_comp (from_grows k (gens-are ((x, source_ty t g) ∷ g) hs (subst (λ v. GensHaveMarks hs ((x, v) ∷ g)) i h.0.1)))
      (as_it_is (subst (λ v. HasMarks e (names_behind hs ((x, v) ∷ g))) i h.1))

  pub over-tuple : (ys : List Text) (e : Ex) → MarksGrow g e (name_over_tuple ys e)
  over-tuple ys (comp_ex e (over (name_pat x) (tuple_dom ds) hs)) = grows-when g (are_names ys ds)
      (comp_ex e (over (name_pat x) (tuple_dom ds) hs)) (comp_ex e (from (name_pat x) (tuples_over ys ds) hs)) (λ c h.
      as-domain x e (tuples_over ys ds) (tuple_dom ds) hs (tuples-type g ys ds c)
      (a_comp (over_grows h.0.0 no_gens_grow) (a_node refl (named-grow (bind_all_types (named_pats ys) (types_of_doms ds) g) ys))) h)
  over-tuple ys _ = tt

  pub over-record : (ys : List Text) (e : Ex) → MarksGrow g e (name_over_record ys e)
  over-record ys (comp_ex e (over (name_pat x) (record_dom fs ds) hs)) = grows-when g (are_names ys ds && are_in_order fs ds)
      (comp_ex e (over (name_pat x) (record_dom fs ds) hs)) (comp_ex e (from (name_pat x) (records_over fs ys ds) hs)) (λ c h.
      as-domain x e (records_over fs ys ds) (record_dom fs ds) hs
      (records-type g fs ys ds (and-left (are_names ys ds) (are_in_order fs ds) c) (and-right (are_names ys ds) (are_in_order fs ds) c))
      (a_comp (over_grows h.0.0 no_gens_grow) (a_node refl (named-grow (bind_all_types (named_pats ys) (types_of_doms ds) g) ys))) h)
  over-record ys _ = tt
