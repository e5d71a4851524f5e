-- An expression of a model stays one with plain keys.
use Rattle.std.proofs.Common.{◌≡◌, refl, sym, ◌∙◌, subst, Bool, true, false, if◌then◌else◌, ◌∷◌, Option, Some, None}
use Rattle.ess_semantics.specs.Lists.{or_default}
use Rattle.ess_semantics.specs.Values.{Text}
use Rattle.ess_semantics.specs.Order.{same_text}
use Rattle.ess_semantics.specs.Names.{Names, look}
use Rattle.ess_semantics.specs.Trees.{Pat, name_pat, tuple_pat, Ex, Exs, number_ex, truth_ex, name_ex, node_ex, matrix_ex, comp_ex, cell_ex, seen_ex, no_exs, more_exs, Gens, no_gens, over, from, cond, Dom, int_dom}
use Rattle.ess_guard_laws.specs.Origins.{Origin, is_sure}
use Rattle.ess_grammar.specs.Models.{Scope}
use Rattle.ess_keys_laws.specs.KeyForms.{key_of}
use Rattle.ess_keys_laws.specs.Keyed.{Around, nothing_around, key_for, key_now, if_sure, sure_key, entered, entered_any, generator_before, keyed, keyed_all, keyed_gens, keyed_behind, keyed_dom}
use Rattle.ess_keys_laws.proofs.StaysRefined.{keyed-refined, no-keys}
use Rattle.eprime_lowering_laws.specs.Lowerable.{is_lowerable}
use Rattle.eprime_lowering_laws.proofs.Lowered as lowered
use Rattle.eprime_lowering_laws.proofs.Refined as refined
use Rattle.ess_lowered_laws.proofs.Alongside.{Along, none_left, one_beside, fit-along, operands-along}
use Rattle.ess_lowered_laws.proofs.Formed.{IsFormed, AreFormed, GensFormed, DomFormed, told, tested}
use Rattle.ess_lowered_laws.proofs.KeyedNodes.{laid-formed, folded-formed, indices-formed, conjuncts-formed}

-- Operands have no more and no fewer beside them.
abbrev Any : Ex → Ex → Type 0
Any e f = Unit {0}

as-many : (c : Around) (es : Exs) → Along Any es (keyed_all c es)
as-many c no_exs = none_left
as-many c (more_exs e es) = one_beside tt (as-many c es)

module _ (s : Scope) where
  -- ---- keys

  -- Each key is formed.
  abbrev Keys : Names Ex → Type 0
  Keys r = (a : Text) (t : Ex) → look r a ≡ Some t → IsFormed s t

  key-formed : (r : Names Ex) → Keys r → (a : Text) → IsFormed s (key_for r a)
  key-formed r h a = go (look r a) refl
    where
      go : (o : Option Ex) → look r a ≡ o → IsFormed s (or_default (look r a) (name_ex a))
      go None q = subst (λ o. IsFormed s (or_default o (name_ex a))) (sym q) tt
      go (Some t) q = subst (λ o. IsFormed s (or_default o (name_ex a))) (sym q) (h a t q)

  sure-formed : (k : Names Origin) (t : Ex) (d : Dom) → is_sure k t d ≡ true → IsFormed s t
  sure-formed k (number_ex i) d q = tt
  sure-formed k (name_ex a) d q = tt
  sure-formed k t d q = cc

  with-key : (r : Names Ex) (j : Text) (t : Ex) → Keys r → IsFormed s t → Keys ((j, t) ∷ r)
  with-key r j t h f a x q = go (same_text j a) q
    where
      go : (b : Bool) → (if b then Some t else look r a) ≡ Some x → IsFormed s x
      go true q = let p : t ≡ x = cc in subst (IsFormed s) p f
      go false q = h a x q

  asked-keys : (c : Around) (j : Text) (d : Dom) (o : Option Ex) → Keys c.keys → Keys (entered c (name_pat j) d (if_sure c d o)).keys
  asked-keys c j d None h = h
  asked-keys c j d (Some t) h = go (is_sure c.origins (key_now c.keys t) d) refl
    where
      go : (b : Bool) → is_sure c.origins (key_now c.keys t) d ≡ b →
          Keys (entered c (name_pat j) d (if b then Some (key_now c.keys t) else None)).keys
      go true q = with-key c.keys j (key_now c.keys t) h (sure-formed c.origins (key_now c.keys t) d q)
      go false q = h

  entered-keys : (c : Around) (p : Pat) (d : Dom) (gs : Gens) → Keys c.keys → Keys (entered c p d (sure_key c p d gs)).keys
  entered-keys c (name_pat j) d gs h = asked-keys c j d (key_of j gs) h
  entered-keys c (tuple_pat ps) d gs h = h

  behind-keys : (gs : Gens) (c : Around) → Keys c.keys → Keys (keyed_behind c gs).keys
  behind-keys no_gens c h = h
  behind-keys (over p d gs) c h =
      behind-keys gs (entered c p (keyed_dom c d) (sure_key c p (keyed_dom c d) gs)) (entered-keys c p (keyed_dom c d) gs h)
  behind-keys (from p e gs) c h = behind-keys gs (entered_any c p) h
  behind-keys (cond e gs) c h = behind-keys gs c h

  -- ---- trees

  before-formed : (p : Pat) (d : Dom) (o : Option Ex) (gs : Gens) → DomFormed s d → GensFormed s gs →
      GensFormed s (generator_before p d o gs)
  before-formed p d (Some t) gs f g = g
  before-formed p d None gs f g = (f, g)

  mutual
    keyed-formed : (e : Ex) (c : Around) → Keys c.keys → IsFormed s e → IsFormed s (keyed c e)
    keyed-formed (number_ex n) c h f = tt
    keyed-formed (truth_ex b) c h f = tt
    keyed-formed (name_ex a) c h f = key-formed c.keys h a
    keyed-formed (node_ex b op es) c h f =
        folded-formed s c.origins b op (keyed_all c es) (sym (operands-along Any op (as-many c es)) ∙ f.0) (all-keyed es c h f.1)
    keyed-formed (matrix_ex es d) c h f = tt
    keyed-formed (comp_ex e gs) c h f =
        laid-formed s (keyed (keyed_behind c gs) e) (keyed_gens c gs) (keyed-formed e (keyed_behind c gs) (behind-keys gs c h) f.0)
        (gens-keyed gs c h f.1)
    keyed-formed (cell_ex b n es) c h f = (f.0, indices-formed s c.origins (keyed_all c es) (all-keyed es c h f.1))
    keyed-formed (seen_ex r d ns es) c h f = tt

    all-keyed : (es : Exs) (c : Around) → Keys c.keys → AreFormed s es → AreFormed s (keyed_all c es)
    all-keyed no_exs c h f = tt
    all-keyed (more_exs e es) c h f = (keyed-formed e c h f.0, all-keyed es c h f.1)

    gens-keyed : (gs : Gens) (c : Around) → Keys c.keys → GensFormed s gs → GensFormed s (keyed_gens c gs)
    gens-keyed no_gens c h f = tt
    gens-keyed (over p d gs) c h f =
        let o = sure_key c p (keyed_dom c d) gs in
        before-formed p (keyed_dom c d) o (keyed_gens (entered c p (keyed_dom c d) o) gs) (dom-keyed d c h f.0)
        (gens-keyed gs (entered c p (keyed_dom c d) o) (entered-keys c p (keyed_dom c d) gs h) f.1)
    gens-keyed (from p e gs) c h f = (keyed-formed e c h f.0, gens-keyed gs (entered_any c p) h f.1)
    gens-keyed (cond e gs) c h f =
        conjuncts-formed s c.origins (keyed c e) (keyed_gens c gs) (keyed-formed e c h f.0) (gens-keyed gs c h f.1)

    dom-keyed : (d : Dom) (c : Around) → Keys c.keys → DomFormed s d → DomFormed s (keyed_dom c d)
    dom-keyed (int_dom rs es) c h f = (sym (fit-along Any rs (as-many c es)) ∙ f.0, all-keyed es c h f.1)
    dom-keyed d c h f = f

  -- So it is where nothing is bound around it.
  pub keyed-kept : (e : Ex) → is_lowerable s e ≡ true → is_lowerable s (keyed nothing_around e) ≡ true
  keyed-kept e h =
      let v = lowered.whole s e h in
      refined.whole s (keyed nothing_around e) (keyed-refined e nothing_around no-keys v.0)
      (tested s (keyed nothing_around e) (keyed-formed e nothing_around (λ a t q. cc) (told s e v.1)))
