-- What rules make of generators and of conditions that read cells stays in scope.
use Rattle.std.proofs.Common.{◌≡◌, refl, Bool, true, false, ◌&&◌, if◌then◌else◌, pos, Option, Some, None, subst, option_map}
use Rattle.ess_semantics.specs.declared.words.Op2.{Op2}
use Rattle.ess_semantics.specs.declared.words.Fun.{Fun}
use Rattle.ess_semantics.specs.Values.{Text}
use Rattle.ess_semantics.specs.Trees.{tuple_literal, matrix_literal, Ex, Exs, node_ex, comp_ex, ex2, fun1, no_exs, more_exs, Gens, no_gens, over, from, cond, number_ex, ex1, Dom, int_dom}
use Rattle.ess_rules_laws.specs.SourceRules.{is_marked}
use Rattle.ess_rules_laws.specs.SpliceRules.{append_gens}
use Rattle.ess_semantics.specs.declared.words.Op1.{Op1}
use Rattle.ess_semantics.specs.Refined.{is_refined, are_refined_gens}
use Rattle.ess_refine_laws.specs.LeavingConditions.{Parted, at_last_condition, under_condition, condition_leaves, with_before}
use Rattle.ess_refine_laws.specs.MovingConditions.{one_later, condition_later}
use Rattle.ess_refine_laws.specs.ExtremeRules.{is_extreme, are_none, extreme_condition, either_number}
use Rattle.ess_refine_laws.specs.Everywhere.{everywhere, everywhere_gens, divisor, base, exponent, raised, extreme, is_nonzero, is_positive, everywhere_list, everywhere_exs, everywhere_dom}
use Rattle.ess_semantics.specs.Occurrences.{has_cells}
use Rattle.ess_semantics.specs.Scoped.{with_names, Scoped, ScopedExs, ScopedGens, ScopedDom}
use Rattle.ess_refine_laws.specs.ScopesOfRules.{BindsLater, LaterBinds, CopyScoped}
use Rattle.ess_refine_laws.proofs.WiderScopes.{behind-domain}
use Rattle.ess_refine_laws.proofs.ScopesOfParts.{gens-map, append-scoped, InScope, when, under}

module _ (z : Text → Bool) where
  -- ---- numbers that are there everywhere

  divisor-scoped : (b : Ex) (s o : Text → Bool) → Scoped z s o b → Scoped z s o (divisor b)
  divisor-scoped b s o h = go (is_nonzero b)
    where
      go : (c : Bool) → Scoped z s o (if c then b else ex2 false Op2.Plus b (fun1 false Fun.ToInt (ex2 true Op2.Eq b (number_ex (pos 0)))))
      go true = h
      go false = (h, (((h, (tt, tt)), tt), tt))

  raised-scoped : (a b : Ex) (s o : Text → Bool) → Scoped z s o a → Scoped z s o b → Scoped z s o (raised a b)
  raised-scoped a b s o h k = go (is_positive b)
    where
      base-scoped : (c : Bool) → Scoped z s o (if c then a else ex2 false Op2.Plus a (fun1 false Fun.ToInt
          (ex2 true Op2.And (ex2 true Op2.Eq a (number_ex (pos 0))) (ex2 true Op2.Le b (number_ex (pos 0))))))
      base-scoped true = h
      base-scoped false = (h, ((((h, (tt, tt)), ((k, (tt, tt)), tt)), tt), tt))

      go : (c : Bool) → Scoped z s o (if c then ex2 false Op2.Pow a b else ex2 false Op2.Pow (base a b) (exponent b))
      go true = (h, (k, tt))
      go false = (base-scoped (is_nonzero a), (((k, (tt, tt)), tt), tt))

  extreme-scoped : (f : Fun) (l : Ex) (s o : Text → Bool) → Scoped z s o l → Scoped z s o (extreme f l)
  extreme-scoped f (comp_ex e gs) s o h =
      (((gens-map z gs (λ u i. Scoped z u i e) (λ u i. Unit {0}) (λ u i k. tt) s o h, tt), (h, tt)), tt)
  extreme-scoped f (node_ex false matrix_literal no_exs) s o h = tt
  extreme-scoped f _ s o h = (h, tt)

  mutual
    everywhere-scoped : (e : Ex) (s o : Text → Bool) → Scoped z s o e → Scoped z s o (everywhere e)
    everywhere-scoped (ex1 false Op1.Minus a) s o h = (everywhere-scoped a s o h.0, tt)
    everywhere-scoped (ex1 false Op1.Bar a) s o h = (everywhere-scoped a s o h.0, tt)
    everywhere-scoped (ex2 false Op2.Plus a b) s o h = (everywhere-scoped a s o h.0, (everywhere-scoped b s o h.1.0, tt))
    everywhere-scoped (ex2 false Op2.Minus a b) s o h = (everywhere-scoped a s o h.0, (everywhere-scoped b s o h.1.0, tt))
    everywhere-scoped (ex2 false Op2.Times a b) s o h = (everywhere-scoped a s o h.0, (everywhere-scoped b s o h.1.0, tt))
    everywhere-scoped (ex2 false Op2.Div a b) s o h =
        (everywhere-scoped a s o h.0, (divisor-scoped (everywhere b) s o (everywhere-scoped b s o h.1.0), tt))
    everywhere-scoped (ex2 false Op2.Mod a b) s o h =
        (everywhere-scoped a s o h.0, (divisor-scoped (everywhere b) s o (everywhere-scoped b s o h.1.0), tt))
    everywhere-scoped (ex2 false Op2.Pow a b) s o h =
        raised-scoped (everywhere a) (everywhere b) s o (everywhere-scoped a s o h.0) (everywhere-scoped b s o h.1.0)
    everywhere-scoped (fun1 false Fun.Sum l) s o h = (list-scoped l s o h.0, tt)
    everywhere-scoped (fun1 false Fun.Product l) s o h = (list-scoped l s o h.0, tt)
    everywhere-scoped (fun1 false Fun.Min l) s o h = extreme-scoped Fun.Min (everywhere_list l) s o (list-scoped l s o h.0)
    everywhere-scoped (fun1 false Fun.Max l) s o h = extreme-scoped Fun.Max (everywhere_list l) s o (list-scoped l s o h.0)
    everywhere-scoped _ s o h = h

    list-scoped : (l : Ex) (s o : Text → Bool) → Scoped z s o l → Scoped z s o (everywhere_list l)
    list-scoped (comp_ex e gs) s o h = gens-everywhere gs e (everywhere e) (λ u i k. everywhere-scoped e u i k) s o h
    list-scoped (node_ex false matrix_literal es) s o h = exs-everywhere es s o h
    list-scoped _ s o h = h

    exs-everywhere : (es : Exs) (s o : Text → Bool) → ScopedExs z s o es → ScopedExs z s o (everywhere_exs es)
    exs-everywhere no_exs s o h = tt
    exs-everywhere (more_exs e es) s o h = (everywhere-scoped e s o h.0, exs-everywhere es s o h.1)

    gens-everywhere : (gs : Gens) (e f : Ex) → ((u i : Text → Bool) → Scoped z u i e → Scoped z u i f) → (s o : Text → Bool) →
        ScopedGens z s o gs (λ u i. Scoped z u i e) → ScopedGens z s o (everywhere_gens gs) (λ u i. Scoped z u i f)
    gens-everywhere no_gens e f k s o h = k s o h
    gens-everywhere (over p d gs) e f k s o h =
        (h.0, dom-everywhere d s o h.1, gens-everywhere gs e f k (with_names s p) (with_names o p) h.2)
    gens-everywhere (from p x gs) e f k s o h = (h.0, h.1, gens-everywhere gs e f k (with_names s p) o h.2)
    gens-everywhere (cond c gs) e f k s o h = (h.0, gens-everywhere gs e f k s o h.1)

    dom-everywhere : (d : Dom) (s o : Text → Bool) → ScopedDom z s o d → ScopedDom z s o (everywhere_dom d)
    dom-everywhere (int_dom rs es) s o h = exs-everywhere es s o h
    dom-everywhere _ s o h = h

  -- ---- generators taken apart

  -- The generators before the condition, the condition, and those behind it with the body.
  abbrev Parts : Ex → (Text → Bool) → (Text → Bool) → Option Parted → Type 0
  Parts e s o None = Unit {0}
  Parts e s o (Some t) =
      ScopedGens z s o t.before (λ u i. Scoped z u i t.condition × ScopedGens z u i t.after (λ v j. Scoped z v j e))

  parts : (gs : Gens) (e : Ex) (s o : Text → Bool) → ScopedGens z s o gs (λ u i. Scoped z u i e) → Parts e s o (at_last_condition gs)
  parts no_gens e s o h = tt
  parts (over p d gs) e s o h = go (at_last_condition gs) (parts gs e (with_names s p) (with_names o p) h.2)
    where
      go : (r : Option Parted) → Parts e (with_names s p) (with_names o p) r → Parts e s o (option_map (with_before (over p d)) r)
      go None k = tt
      go (Some t) k = (h.0, h.1, k)
  parts (from p x gs) e s o h = go (at_last_condition gs) (parts gs e (with_names s p) o h.2)
    where
      go : (r : Option Parted) → Parts e (with_names s p) o r → Parts e s o (option_map (with_before (from p x)) r)
      go None k = tt
      go (Some t) k = (h.0, h.1, k)
  parts (cond c gs) e s o h = go (at_last_condition gs) (parts gs e s o h.1)
    where
      here : (b : Bool) → Parts e s o (if b then Some (record { before = no_gens; condition = c; after = gs }) else None)
      here true = (h.0, h.1)
      here false = tt

      go : (r : Option Parted) → Parts e s o r → Parts e s o (elim r [
        | Some t ↦ Some (with_before (cond c) t)
        | None ↦ if has_cells c then Some (record { before = no_gens; condition = c; after = gs }) else None
      ])
      go (Some t) k = (h.0, k)
      go None k = here (has_cells c)

  module _ (s o : Text → Bool) where
    abbrev A : Option Ex → Type 0
    A r = InScope z s o r

    -- ---- conditions

    under-scoped : (f : Fun) (c e : Ex) (u i : Text → Bool) → Scoped z u i c → Scoped z u i e → Scoped z u i (under_condition f c e)
    under-scoped Fun.And c e u i h k = (h, (k, tt))
    under-scoped Fun.Or c e u i h k = (h, (k, tt))
    under-scoped Fun.Sum c e u i h k = ((h, tt), (everywhere-scoped e u i k, tt))
    under-scoped _ c e u i h k = (((h, tt), ((everywhere-scoped e u i k, (tt, tt)), tt)), (tt, tt))

    pub leaves : (e : Ex) → Scoped z s o e → A (condition_leaves e)
    leaves (fun1 b f (comp_ex e gs)) h = go (at_last_condition gs) (parts gs e s o h.0)
      where
        go : (r : Option Parted) → Parts e s o r → A (elim r [
          | None ↦ None
          | Some t ↦ if is_marked b f && (is_refined t.condition && (is_refined e && are_refined_gens t.after))
              then Some (fun1 b f (comp_ex (under_condition f t.condition (fun1 b f (comp_ex e t.after))) t.before)) else None
        ])
        go None k = tt
        go (Some t) k = when z s o (is_marked b f && (is_refined t.condition && (is_refined e && are_refined_gens t.after))) _
            (gens-map z t.before _ _ (λ u i l. under-scoped f t.condition (fun1 b f (comp_ex e t.after)) u i l.0 (l.1, tt)) s o k, tt)
    leaves _ h = tt

    later-gens : (c : Ex) (gs ks : Gens) (f : Fun) (e : Ex) → BindsLater c gs →
        ScopedGens z s o ks (λ u i. Scoped z u i c × ScopedGens z u i gs (λ v j. Scoped z v j e)) →
        A (option_map (λ hs. fun1 false f (comp_ex e (append_gens ks hs))) (one_later c gs))
    later-gens c no_gens ks f e b h = tt
    later-gens c (over p d gs) ks f e b h = (
      append-scoped z ks (over p (everywhere_dom d) (cond c gs)) (λ v j. Scoped z v j e) s o
          (gens-map z ks _ _ (λ u i l. (l.1.0, dom-everywhere d u i l.1.1, (behind-domain z p u i c b l.0, l.1.2))) s o h),
      tt,
    )
    later-gens c (from p x gs) ks f e b h = tt
    later-gens c (cond a gs) ks f e b h = (
      append-scoped z ks (cond a (cond c gs)) (λ v j. Scoped z v j e) s o
          (gens-map z ks _ _ (λ u i l. (l.1.0, (l.0, l.1.1))) s o h),
      tt,
    )

    pub later : (m : Bool) (f : Fun) (e : Ex) (gs : Gens) → Scoped z s o (fun1 m f (comp_ex e gs)) → LaterBinds (at_last_condition gs) →
        A (condition_later (fun1 m f (comp_ex e gs)))
    later true f e gs h b = tt
    later false f e gs h b = go (at_last_condition gs) (parts gs e s o h.0) b
      where
        go : (r : Option Parted) → Parts e s o r → LaterBinds r → A (elim r [
          | None ↦ None
          | Some t ↦ if is_extreme f && (is_refined t.condition && (is_refined e && are_refined_gens t.after))
              then option_map (λ hs. fun1 false f (comp_ex e (append_gens t.before hs))) (one_later t.condition t.after) else None
        ])
        go None k b = tt
        go (Some t) k b = under z s o (is_extreme f && (is_refined t.condition && (is_refined e && are_refined_gens t.after))) _
            (later-gens t.condition t.after t.before f e b k)

    both-gens : (gs : Gens) (K L : (Text → Bool) → (Text → Bool) → Type 0) (s o : Text → Bool) → ScopedGens z s o gs K →
        ScopedGens z s o gs L → ScopedGens z s o gs (λ u i. K u i × L u i)
    both-gens no_gens K L s o h k = (h, k)
    both-gens (over p d gs) K L s o h k = (h.0, h.1, both-gens gs K L (with_names s p) (with_names o p) h.2 k.2)
    both-gens (from p e gs) K L s o h k = (h.0, h.1, both-gens gs K L (with_names s p) o h.2 k.2)
    both-gens (cond c gs) K L s o h k = (h.0, both-gens gs K L s o h.1 k.1)

    never : (x v : Bool) (f : Ex) → A (if (x && false) && v then Some f else None)
    never true v f = tt
    never false v f = tt

    -- The condition, the body and the copy, side by side.
    abbrev three : Ex → Ex → Ex → Ex
    three c e n = node_ex false tuple_literal (more_exs c (more_exs e (more_exs n no_exs)))

    opposed-at : (n : Ex) (f : Fun) (e : Ex) (t : Parted) → Parts e s o (Some t) →
        ScopedGens z s o t.before (λ u i. Scoped z u i n) → (after : Gens) → t.after ≡ after → (v : Bool) →
        A (if (is_extreme f && are_none after) && v
        then Some (fun1 false f (comp_ex (either_number t.condition (everywhere e) n) (everywhere_gens t.before))) else None)
    opposed-at n f e t k c no_gens q v = when z s o ((is_extreme f && true) && v) _ (
      gens-everywhere t.before (three t.condition e n) (either_number t.condition (everywhere e) n)
          (λ u i l. (((l.0, tt), (everywhere-scoped e u i l.1.0, tt)), (((((l.0, tt), tt), (l.1.1.0, tt))), tt)))
          s o (gens-map z t.before _ _ (λ u i l. (l.0.0, (l.0.1, (l.1, tt)))) s o
          (both-gens t.before _ _ s o
          (subst (λ g. ScopedGens z s o t.before (λ u i. Scoped z u i t.condition × ScopedGens z u i g (λ w j. Scoped z w j e))) q k) c)),
      tt,
    )
    opposed-at n f e t k c (over p d hs) q v = never (is_extreme f) v _
    opposed-at n f e t k c (from p x hs) q v = never (is_extreme f) v _
    opposed-at n f e t k c (cond b hs) q v = never (is_extreme f) v _

    pub opposed : (n : Ex) (m : Bool) (f : Fun) (e : Ex) (gs : Gens) →
        CopyScoped z (record { all = s; over_domains = o }) n (at_last_condition gs) → Scoped z s o (fun1 m f (comp_ex e gs)) →
        A (extreme_condition n (fun1 m f (comp_ex e gs)))
    opposed n true f e gs c h = tt
    opposed n false f e gs c h = go (at_last_condition gs) (parts gs e s o h.0) c
      where
        go : (r : Option Parted) → Parts e s o r → CopyScoped z (record { all = s; over_domains = o }) n r → A (elim r [
          | None ↦ None
          | Some t ↦ if (is_extreme f && are_none t.after) && (is_refined t.condition && (is_refined e && (is_refined n
              && are_refined_gens t.before)))
              then Some (fun1 false f (comp_ex (either_number t.condition (everywhere e) n) (everywhere_gens t.before))) else None
        ])
        go None k c = tt
        go (Some t) k c = opposed-at n f e t k c t.after refl _
