-- Guarded, each part of a tree has a type, and the tree its own.
use Rattle.std.proofs.Common.{◌≡◌, refl, sym, ap, ◌∙◌, Bool, true, false, List, [], ◌∷◌}
use Rattle.ess_semantics.specs.Values.{Text}
use Rattle.ess_semantics.specs.Names.{Names}
use Rattle.ess_semantics.specs.Trees.{Ex, Exs, number_ex, truth_ex, name_ex, node_ex, matrix_ex, comp_ex, cell_ex, seen_ex, no_exs, more_exs, Gens, no_gens, over, from, cond, Dom, Doms, bool_dom, int_dom, name_dom, tuple_dom, record_dom, matrix_dom, set_dom, mset_dom, function_dom, relation_dom, partition_dom, no_doms, more_doms}
use Rattle.ess_semantics.specs.Types.{Ty, int_ty, type_of_dom, bind_types}
use Rattle.ess_semantics.specs.Typing.{type_of, source_ty}
use Rattle.ess_semantics.specs.NamesAt.{names_behind}
use Rattle.ess_guard_laws.specs.Origins.{Origin, with_any, with_over, known_behind}
use Rattle.ess_guard_laws.specs.Conditions.{summed, all_of}
use Rattle.ess_guard_laws.specs.Guard.{guarded, guarded_all, conditions, conditions_all, there, make_total, make_total_term}
use Rattle.ess_guard_types_laws.specs.HasTypes.{agrees, HasTypes, HaveTypes, GensHaveTypes, AreNumbers, DomHasTypes, DomsHaveTypes}
use Rattle.ess_guard_types_laws.specs.Laws.{GuardedKeepsTypes}
use Rattle.ess_guard_types_laws.proofs.TypedConditions.{Cond, Conds, its-type, summed-types, all-of-cond}
use Rattle.ess_guard_types_laws.proofs.PartsStay as P

module _ (natural : Bool) (x y : Text) where
  abbrev G : Names Origin → Ex → Ex
  G = guarded natural x y

  abbrev Gs : Names Origin → Exs → Exs
  Gs = guarded_all natural x y

  abbrev C : Names Origin → Bool → Ex → List Ex
  C = conditions natural x y

  abbrev Cs : Names Origin → Bool → Exs → List Ex
  Cs = conditions_all natural x y

  -- ---- trees

  mutual
    pub stays : (e : Ex) (k : Names Origin) (g : Names Ty) → HasTypes e g → P.Stays natural x y k e g
    stays (number_ex n) k g h = record { typed = tt; same = refl; asked = λ w. tt }
    stays (truth_ex b) k g h = record { typed = tt; same = refl; asked = λ w. tt }
    stays (name_ex a) k g h = record { typed = h; same = refl; asked = λ w. tt }
    stays (node_ex b op es) k g h = P.node-stays natural x y k op es g (all-stay es k g h.2) h.1 b h.0
    stays (matrix_ex es d) k g h = P.matrix-stays natural x y es d k g h.0 (all-stay es k g h.1) (dom-stays d k g h.2)
    stays (comp_ex e gs) k g h =
        P.comp-stays natural x y e gs k g h.0 h.1 (gens-stay gs k g h.0) (stays e (known_behind gs k) (names_behind gs g) h.1)
    stays (cell_ex b n es) k g h = P.cell-stays natural x y b n es k g (all-stay es k g h)
    stays (seen_ex r d ns es) k g h = record { typed = h; same = refl; asked = λ w. tt }

    all-stay : (es : Exs) (k : Names Origin) (g : Names Ty) → HaveTypes es g → P.AllStay natural x y k es g
    all-stay no_exs k g h = record { typed = tt; same = refl; asked = λ w. tt }
    all-stay (more_exs e es) k g h = P.more-stay natural x y e es k g (stays e k g h.0) (all-stay es k g h.1)

    numbers-stay : (es : Exs) (k : Names Origin) (g : Names Ty) → AreNumbers es g → P.NumbersStay natural x y k es g
    numbers-stay no_exs k g h = record { typed = tt; asked = λ w. tt }
    numbers-stay (more_exs e es) k g h = P.number-stays natural x y e es k g h.0 (stays e k g h.1) (numbers-stay es k g h.2)

    gens-stay : (gs : Gens) (k : Names Origin) (g : Names Ty) → GensHaveTypes gs g → P.GensStay natural x y k gs g
    gens-stay no_gens k g h = record { typed = tt; behind = refl; asked = λ ds c. c }
    gens-stay (over p d gs) k g h =
        P.over-stays natural x y p d gs k g (dom-stays d k g h.0) (gens-stay gs (with_over p d k) (bind_types p (type_of_dom d) g) h.1)
    gens-stay (from p e gs) k g h =
        P.from-stays natural x y p e gs k g h.0 (stays e k g h.1) (gens-stay gs (with_any p k) (bind_types p (source_ty e g) g) h.2)
    gens-stay (cond e gs) k g h = P.cond-stays natural x y e gs k g h.0 (stays e k g h.1) (gens-stay gs k g h.2)

    dom-stays : (d : Dom) (k : Names Origin) (g : Names Ty) → DomHasTypes d g → P.DomStays natural x y k d g
    dom-stays bool_dom k g h = record { typed = tt; asked = tt }
    dom-stays (int_dom rs es) k g h = P.range-stays natural x y rs es k g (numbers-stay es k g h)
    dom-stays (name_dom a) k g h = record { typed = tt; asked = tt }
    dom-stays (tuple_dom ds) k g h = P.tuple-stays natural x y ds k g (doms-stay ds k g h)
    dom-stays (record_dom fs ds) k g h = P.record-stays natural x y fs ds k g (doms-stay ds k g h)
    dom-stays (matrix_dom is d) k g h = P.matrix-dom-stays natural x y is d k g (doms-stay is k g h.0) (dom-stays d k g h.1)
    dom-stays (set_dom ms es d) k g h = P.set-stays natural x y ms es d k g (numbers-stay es k g h.0) (dom-stays d k g h.1)
    dom-stays (mset_dom ms es d) k g h = P.mset-stays natural x y ms es d k g (numbers-stay es k g h.0) (dom-stays d k g h.1)
    dom-stays (function_dom ms es d c) k g h =
        P.function-stays natural x y ms es d c k g (numbers-stay es k g h.0) (dom-stays d k g h.1) (dom-stays c k g h.2)
    dom-stays (relation_dom ms es ds) k g h = P.relation-stays natural x y ms es ds k g (numbers-stay es k g h.0) (doms-stay ds k g h.1)
    dom-stays (partition_dom ms es d) k g h = P.partition-stays natural x y ms es d k g (numbers-stay es k g h.0) (dom-stays d k g h.1)

    doms-stay : (ds : Doms) (k : Names Origin) (g : Names Ty) → DomsHaveTypes ds g → P.DomsStay natural x y k ds g
    doms-stay no_doms k g h = record { typed = tt; asked = tt }
    doms-stay (more_doms d ds) k g h = P.more-doms-stay natural x y d ds k g (dom-stays d k g h.0) (doms-stay ds k g h.1)

-- ---- the law

summed-stays : (cs : List Ex) (e : Ex) (g : Names Ty) → Conds cs g → HasTypes e g → agrees (type_of e g) int_ty ≡ true → HasTypes
    (summed cs e) g
summed-stays [] e g p h a = h
summed-stays (c ∷ cs) e g p h a =
    let t = its-type e g h in summed-types c cs e t.0 g p h t.1 (sym (ap (λ o. agrees o int_ty) t.1) ∙ a)

pub types-stay : GuardedKeepsTypes
types-stay = record {
  total = λ x y g e h. let s : P.Stays false x y [] e g = stays false x y e [] g h in (s.typed, s.same);
  natural = λ x y g e h. let s : P.Stays true x y [] e g = stays true x y e [] g h in (s.typed, s.same);
  there = λ x y g i e h. let s : P.Stays false x y [] e g = stays false x y e [] g h in
      let c : Cond (all_of (there x y e)) g = all-of-cond (there x y e) g (s.asked false) in (c.typed, c.bool);
  term = λ x y g i e h f. term-typed x y g i e h f;
}
  where
    term-typed : (x y : Text) (g : Names Ty) (i : Bool) (e : Ex) → HasTypes e g → (i ≡ true → agrees (type_of e g) int_ty ≡ true) →
        HasTypes ((make_total_term x y i e).1) g
    term-typed x y g false e h f = let s : P.Stays false x y [] e g = stays false x y e [] g h in s.typed
    term-typed x y g true e h f = let s : P.Stays false x y [] e g = stays false x y e [] g h in
        summed-stays (there x y e) (make_total x y e) g (s.asked false) s.typed (ap (λ o. agrees o int_ty) s.same ∙ f refl)
