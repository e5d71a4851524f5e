-- Comprehensions over sources whose items stay in order keep types and marks.
use Rattle.std.proofs.Common.{◌≡◌, refl, sym, ap, ◌∙◌, subst, Bool, true, false, ◌&&◌, if◌then◌else◌, List, [], ◌∷◌, Option, Some, None, option_map}
use Rattle.ess_semantics.specs.Lists.{and_then, or_else}
use Rattle.ess_semantics.specs.Values.{Text, a_matrix}
use Rattle.ess_semantics.specs.Names.{Names}
use Rattle.ess_semantics.specs.Trees.{Pats, name_pat, tuple_pat, no_pats, more_pats, Ex, number_ex, truth_ex, name_ex, node_ex, matrix_ex, comp_ex, cell_ex, seen_ex, Gens, no_gens, over, from, cond, Dom, Doms, tuple_dom, record_dom, no_doms, more_doms}
use Rattle.ess_semantics.specs.Types.{Ty, int_ty, compound2, type_of_dom, types_of_doms, bind_types, bind_all_types}
use Rattle.ess_semantics.specs.Typing.{type_of, types_under}
use Rattle.ess_semantics.specs.NamesAt.{names_behind}
use Rattle.ess_rules_laws.specs.Listings.{Alternative}
use Rattle.ess_rules_laws.specs.ListedSources.{laid_out, put_listed, source_in_order}
use Rattle.ess_rules_laws.specs.SpliceRules.{append_gens}
use Rattle.ess_rules_laws.specs.SplitRules.{as_many, each_over, split}
use Rattle.ess_rules_laws.specs.TupleNames.{name_over_tuple}
use Rattle.ess_refine_laws.specs.RecordNames.{name_over_record}
use Rattle.ess_refine_laws.specs.MarksStay.{HasMarks}
use Rattle.ess_refine_laws.specs.AllRules.{Supply, OfSome}
use Rattle.ess_refine_types_laws.proofs.TypeParts.{TypeKept, when-so}
use Rattle.ess_rules_types_laws.specs.TypesOfSources.{PutFits}
use Rattle.ess_rules_types_laws.proofs.PutListed.{listed-type}
use Rattle.ess_rules_types_laws.proofs.TypesOfNames.{over-tuple, over-record}
use Rattle.ess_rules_marks_laws.proofs.Grows.{MarksGrow}
use Rattle.ess_put_marks_laws.proofs.MarksOfListed.{listed-marks}
use Rattle.ess_put_marks_laws.proofs.MarksOfNames.{splits as splits-marks, over-tuple as over-tuple-marks, over-record as over-record-marks}
use Rattle.ess_open_rules_laws.specs.OpenGenerators.{Opened, at_first_open, put_before}
use Rattle.ess_open_rules_laws.specs.OpenSources.{in_order_told, pattern_opened, kept_in_order, kept_behind}
use Rattle.ess_open_rules_laws.specs.OpenRules.{in_order_of_its_source}
use Rattle.ess_open_types_laws.specs.OpeningsTyped.{InOrderFits, InOrderMarked, OpeningsTyped, OpeningsMarked}
use Rattle.ess_open_types_laws.proofs.TypesBehind.{KeepsBoth, BothKept, by-growth, both-behind, two-parts}
use Rattle.ess_open_types_laws.proofs.PatternsTyped.{patterns}

module _ (g : Names Ty) (P : Type 0) (e : Ex) where
  both-or : (o p : Option Ex) → BothKept g P e o → BothKept g P e p → BothKept g P e (or_else o p)
  both-or None p h k = k
  both-or (Some f) p h k = h

  both-of : (o : Option Ex) → TypeKept g e o → (P → MarksGrow g e o) → BothKept g P e o
  both-of None h k = tt
  both-of (Some f) h k = by-growth g P e f h k

-- A generator over each domain of a tuple.
each-over-types : (ps : Pats) (ds : Doms) (hs : Gens) (h : Names Ty) → as_many ps ds ≡ true →
    types_under (each_over ps ds hs) h ≡ types_under hs (bind_all_types ps (types_of_doms ds) h)
each-over-types no_pats no_doms hs h k = refl
each-over-types (more_pats p ps) (more_doms d ds) hs h k = each-over-types ps ds hs (bind_types p (type_of_dom d) h) k
each-over-types no_pats (more_doms d ds) hs h k = cc
each-over-types (more_pats p ps) no_doms hs h k = cc

split-type : (g : Names Ty) (e : Ex) (ps : Pats) (ds : Doms) (hs : Gens) →
    TypeKept g (comp_ex e (over (tuple_pat ps) (tuple_dom ds) hs)) (split (comp_ex e (over (tuple_pat ps) (tuple_dom ds) hs)))
split-type g e ps ds hs = when-so g (as_many ps ds) (comp_ex e (over (tuple_pat ps) (tuple_dom ds) hs)) (comp_ex e (each_over ps ds hs))
    (λ k t q. ap (λ o. and_then o (λ h. option_map (compound2 a_matrix int_ty) (type_of e h))) (each-over-types ps ds hs g k) ∙ q)

module _ (s : Supply) (g : Names Ty) where
  -- Over a listing.
  told-in-order : (y : Text) (t e : Ex) (hs : Gens) (o : Option Alternative) → OfSome o (PutFits g y t e hs) →
      BothKept g (OfSome o (λ a. HasMarks (laid_out a) g)) (comp_ex e (from (name_pat y) t hs))
      (and_then o (λ a. source_in_order a (comp_ex e (from (name_pat y) t hs))))
  told-in-order y t e hs None h = tt
  told-in-order y t e hs (Some a) h = (listed-type g y t e hs a h, λ p v q m. listed-marks g y t e hs a h p m)

  -- At the first generator.
  in-order : (e : Ex) (gs : Gens) → InOrderFits s g e gs →
      BothKept g (InOrderMarked s g gs) (comp_ex e gs) (kept_in_order s g (comp_ex e gs))
  in-order e (from (name_pat y) (comp_ex i ks) hs) h = (
    listed-type g y (comp_ex i ks) e hs (record { gens = ks; item = i }) h,
    λ p v q m. listed-marks g y (comp_ex i ks) e hs (record { gens = ks; item = i }) h m.0.1 m,
  )
  in-order e (from (name_pat y) t hs) h = told-in-order y t e hs (in_order_told s g t) h
  in-order e (from (tuple_pat ps) t hs) h =
      both-or g (Unit {0}) (comp_ex e (from (tuple_pat ps) t hs)) (pattern_opened g s.one (comp_ex e (from (tuple_pat ps) t hs))) None
      (patterns g (Unit {0}) s.one e ps t hs h.0 h.1) tt
  in-order e (over (tuple_pat ps) (tuple_dom ds) hs) h =
      both-or g (InOrderMarked s g (over (tuple_pat ps) (tuple_dom ds) hs)) (comp_ex e (over (tuple_pat ps) (tuple_dom ds) hs))
      (split (comp_ex e (over (tuple_pat ps) (tuple_dom ds) hs))) None
      (both-of g (InOrderMarked s g (over (tuple_pat ps) (tuple_dom ds) hs)) (comp_ex e (over (tuple_pat ps) (tuple_dom ds) hs))
      (split (comp_ex e (over (tuple_pat ps) (tuple_dom ds) hs)))
      (split-type g e ps ds hs)
      (λ p. splits-marks g s (comp_ex e (over (tuple_pat ps) (tuple_dom ds) hs)) p)) tt
  in-order e (over (name_pat x) (tuple_dom ds) hs) h =
      both-or g (Unit {0}) (comp_ex e (over (name_pat x) (tuple_dom ds) hs))
      (name_over_tuple s.parts (comp_ex e (over (name_pat x) (tuple_dom ds) hs))) None
      (both-of g (Unit {0}) (comp_ex e (over (name_pat x) (tuple_dom ds) hs))
      (name_over_tuple s.parts (comp_ex e (over (name_pat x) (tuple_dom ds) hs)))
      (over-tuple g s.parts (comp_ex e (over (name_pat x) (tuple_dom ds) hs)))
      (λ p. over-tuple-marks g s.parts (comp_ex e (over (name_pat x) (tuple_dom ds) hs)))) tt
  in-order e (over (name_pat x) (record_dom fs ds) hs) h =
      both-or g (Unit {0}) (comp_ex e (over (name_pat x) (record_dom fs ds) hs))
      (name_over_record s.parts (comp_ex e (over (name_pat x) (record_dom fs ds) hs))) None
      (both-of g (Unit {0}) (comp_ex e (over (name_pat x) (record_dom fs ds) hs))
      (name_over_record s.parts (comp_ex e (over (name_pat x) (record_dom fs ds) hs)))
      (over-record g s.parts (comp_ex e (over (name_pat x) (record_dom fs ds) hs)))
      (λ p. over-record-marks g s.parts (comp_ex e (over (name_pat x) (record_dom fs ds) hs)))) tt
  in-order e _ h = tt

-- What keeps both does so with generators before its own.
pub put-both : (g : Names Ty) (P : Type 0) (e : Ex) (before after : Gens) (f : Ex) →
    KeepsBoth (names_behind before g) P (comp_ex e after) f → BothKept g P (comp_ex e (append_gens before after)) (put_before before f)
put-both g P e before after (comp_ex f ks) k = both-behind before e f after ks g P k
put-both g P e before after _ k = tt

-- At the first generator that isn't plain.
pub behind-in-order : (s : Supply) (g : Names Ty) (e : Ex) → OpeningsTyped s g in_order_of_its_source e →
    BothKept g (OpeningsMarked s g in_order_of_its_source e) e (kept_behind s g e)
behind-in-order s g (comp_ex e gs) h = go (at_first_open gs) refl h
  where
    answer : (P : Type 0) (t : Opened) → gs ≡ append_gens t.before t.after → (o : Option Ex) →
        BothKept (names_behind t.before g) P (comp_ex e t.after) o →
        BothKept g P (comp_ex e gs) (and_then o (put_before t.before))
    answer P t i None k = tt
    answer P t i (Some f) k =
        subst (λ z. BothKept g P (comp_ex e z) (put_before t.before f)) (sym i) (put-both g P e t.before t.after f k)

    go : (o : Option Opened) → at_first_open gs ≡ o → OfSome o (λ t. InOrderFits s (names_behind t.before g) e t.after) →
        BothKept g (OfSome o (λ t. InOrderMarked s (names_behind t.before g) t.after)) (comp_ex e gs)
        (and_then o (λ t. and_then (kept_in_order s (names_behind t.before g) (comp_ex e t.after)) (put_before t.before)))
    go None i k = tt
    go (Some t) i k = answer (InOrderMarked s (names_behind t.before g) t.after) t (two-parts gs t i)
        (kept_in_order s (names_behind t.before g) (comp_ex e t.after)) (in-order s (names_behind t.before g) e t.after k)
behind-in-order s g _ h = tt
