-- Rules lead from bare trees to bare trees that mean the same, one rule at a part after the other.
use Rattle.std.proofs.Common.{◌≡◌, refl, sym, ap, ◌∙◌, subst, ℕ, ◌+◌, ◌≤◌, le_refl, Bool, true, false, if◌then◌else◌, [], Option, Some, None, arith}
use Rattle.ess_semantics.specs.declared.words.Fun.{Fun}
use Rattle.ess_semantics.specs.Values.{Text}
use Rattle.ess_semantics.specs.Names.{Names}
use Rattle.ess_semantics.specs.Trees.{name_pat, Ex, comp_ex, fun1, Gens, over, cond}
use Rattle.ess_semantics.specs.Types.{Ty}
use Rattle.ess_semantics.specs.Typed.{Typed}
use Rattle.ess_semantics.specs.Meaning.{Env}
use Rattle.ess_semantics.specs.Contexts.{In, fill, Where}
use Rattle.ess_semantics.specs.NamesAt.{names_at}
use Rattle.ess_semantics.specs.StaysAt.{StaysAt}
use Rattle.ess_rules_laws.proofs.Places.{where-join}
use Rattle.ess_rules_laws.proofs.KeptUnder.{where-under}
use Rattle.ess_refine_laws.specs.AllRules.{Supply}
use Rattle.ess_refine_laws.specs.ScopesStay.{is_outside_views}
use Rattle.ess_refine_laws.proofs.ScopesStay.{scopes-stay}
use Rattle.ess_values_along_laws.specs.Valued.{Valued}
use Rattle.ess_values_along_laws.specs.ValuesAlong.{natural_at, KeepsValues}
use Rattle.ess_values_along_laws.proofs.ValuesAlong.{values-along}
use Rattle.ess_valued_chains_laws.proofs.Parts.{valued-part}
use Rattle.conjure_model_laws.specs.Printed.{binders}
use Rattle.ess_bare_laws.specs.Bare.{Bare, number, truth, named, cell, one, two, power, chosen, folded, added, ordered, Ranging, at_end, through, where_holds, truths, numbers}
use Rattle.ess_bare_laws.specs.BareParts.{marked_types, Part, scalar, items}
use Rattle.ess_bare_laws.specs.Fires.{Fires}
use Rattle.ess_bare_laws.proofs.Picks.{axes-ranging}
use Rattle.ess_bare_laws.proofs.PlainRules.{fires, no-list}
use Rattle.ess_bare_laws.proofs.Rulings.{no-ruling, no-ruling-list}
use Rattle.ess_bare_laws.proofs.Gathering.{no-gathering}
use Rattle.ess_bare_laws.proofs.OrderRules.{no-order, no-order-list}
use Rattle.ess_bare_laws.proofs.NumberRules.{no-number-rule, no-number-list}
use Rattle.ess_bare_laws.proofs.Parts.{bare-part}
use Rattle.ess_bare_laws.proofs.Fired.{stays-bare}
use Rattle.ess_bare_laws.proofs.FiredKeep.{fired-keeps}
use Rattle.ess_bare_laws.proofs.FiredScopes.{fired-scoped}
use Rattle.ess_bare_laws.proofs.FiredNumbers.{fired-spells, part-spells}
use Rattle.ess_lowered_laws.proofs.PartRanges.{part-fits}
use Rattle.conjure_modelling.specs.ess_rules.Ruled.{IsRuled, Ruling, plainly, by_kind, gathering, in_order, by_number, supply_at, puts_source, ruled, new_source, with_new_source}
use Rattle.conjure_modelling.specs.ess_refine.Chains.{as_it_was, led_at, Leads}
use Rattle.conjure_standing_laws.specs.BareLaws.{StaysBare, BareTreesStayBare}
use Rattle.conjure_standing_laws.proofs.Binders.{at-part, fired-binds}
use Rattle.conjure_standing_laws.proofs.FiredRanges.{fired-fits}

no-tree : {e : Ex} → None ≡ Some e → ⊥
no-tree q = cc

no-typed : (env : Env) → Typed [] env
no-typed env a t v p q = cc

less : (a b c : ℕ) → a ≤ b → b ≤ c → a ≤ c
less a b c p q = omega (arith, p, q)

choose-root : (b : Bool) (x y : Ex) → x ≡ y → (if b then x else y) ≡ y
choose-root true x y q = q
choose-root false x y q = refl

module _ (cells : Text → Option (Bool × ℕ)) where
  -- ---- what a rule is used at

  -- Generators of bare trees have no source.
  no-source : {r t : Names Bool} {gs : Gens} → Ranging cells r gs t → (j : ℕ) → (new_source j gs).0 ≡ gs
  no-source at_end j = refl
  no-source (through {a = a} {d = d} truths k) j = ap (over (name_pat a) d) (no-source k j)
  no-source (through {a = a} {d = d} (numbers b es) k) j = ap (over (name_pat a) d) (no-source k j)
  no-source (where_holds {c = c} f k) j = ap (cond c) (no-source k j)

  list-root : {r t : Names Bool} {gs : Gens} (e : Ex) → Ranging cells r gs t → (j : ℕ) → (with_new_source j (comp_ex e gs)).0 ≡ comp_ex e gs
  list-root e k j = ap (comp_ex e) (no-source k j)

  bare-root : {r : Names Bool} {e : Ex} {m : Bool} → Bare cells r e m → (j : ℕ) → (with_new_source j e).0 ≡ e
  bare-root number j = refl
  bare-root truth j = refl
  bare-root (named h) j = refl
  bare-root (cell h i) j = refl
  bare-root (one o f) j = refl
  bare-root (two o f h) j = refl
  bare-root (power f h) j = refl
  bare-root (chosen truth) j = refl
  bare-root (chosen (named h)) j = refl
  bare-root (chosen (cell h i)) j = refl
  bare-root (chosen (one o f)) j = refl
  bare-root (chosen (two o f h)) j = refl
  bare-root (chosen (folded w k f)) j = refl
  bare-root (chosen (ordered w f h)) j = refl
  bare-root (folded {f = f} {e = e} w k h) j = ap (λ z. fun1 true f (comp_ex e z)) (no-source k j)
  bare-root (added {e = e} k h) j = ap (λ z. fun1 false Fun.Sum (comp_ex e z)) (no-source (axes-ranging cells k) j)
  bare-root (ordered w f h) j = refl

  -- ---- which rules fire

  by-ruling : (s : Supply) (r : Names Bool) (u : Ruling) (a b : Ex) (m : Bool) → Bare cells r a m →
      ruled s (marked_types r) u a ≡ Some b → Fires a b m
  by-ruling s r (plainly u) a b m f q = fires cells s r u a b m f q
  by-ruling s r (by_kind u) a b m f q = absurd (no-tree (sym (no-ruling cells s (marked_types r) r f u) ∙ q))
  by-ruling s r gathering a b m f q = absurd (no-tree (sym (no-gathering cells r f) ∙ q))
  by-ruling s r (in_order u) a b m f q = absurd (no-tree (sym (no-order cells s (marked_types r) r u f) ∙ q))
  by-ruling s r (by_number u) a b m f q = absurd (no-tree (sym (no-number-rule cells r s (marked_types r) u f) ∙ q))

  at-list : (s : Supply) (g : Names Ty) (r t : Names Bool) (u : Ruling) (e b : Ex) (gs : Gens) → Ranging cells r gs t →
      ruled s g u (comp_ex e gs) ≡ Some b → ⊥
  at-list s g r t (plainly u) e b gs k q = no-tree (sym (no-list cells s g r t e gs k u) ∙ q)
  at-list s g r t (by_kind u) e b gs k q = no-tree (sym (no-ruling-list cells s g r e k u) ∙ q)
  at-list s g r t gathering e b gs k q = no-tree q
  at-list s g r t (in_order u) e b gs k q = no-tree (sym (no-order-list cells s g r u e k) ∙ q)
  at-list s g r t (by_number u) e b gs k q = no-tree (sym (no-number-list s g u e gs) ∙ q)

  -- The rule at the tree itself.
  at-itself : (n : ℕ) (g : Names Ty) (a b : Ex) (k : ℕ) (i : IsRuled n g a b k) → ((j : ℕ) → (with_new_source j a).0 ≡ a) →
      ruled (supply_at n i.count) g i.rule a ≡ Some b
  at-itself n g a b k i h = sym (ap (ruled (supply_at n i.count) g i.rule)
      (choose-root (puts_source i.rule) (with_new_source (n + 3 + i.count) a).0 a (h (n + 3 + i.count)))) ∙ i.fires

  -- ---- one rule at a part

  itself : (e : Ex) (m : Bool) → Bare cells [] e m → StaysBare cells e e m
  itself e m f = record {
    bare = f;
    kept = λ env v. (refl, v);
    scoped = λ z s o h. h;
    spells = λ q h. h;
    binds = le_refl (binders e);
    fits = λ h. h;
  }

  chained : (a b c : Ex) (m : Bool) → StaysBare cells a b m → StaysBare cells b c m → StaysBare cells a c m
  chained a b c m x y = record {
    bare = y.bare;
    kept = λ env v. let k = x.kept env v in let l = y.kept env k.1 in (k.0 ∙ l.0, l.1);
    scoped = λ z s o h. y.scoped z s o (x.scoped z s o h);
    spells = λ q h. y.spells q (x.spells q h);
    binds = less (binders c) (binders b) (binders a) y.binds x.binds;
    fits = λ h. y.fits (x.fits h);
  }

  -- What one of the four rules makes of a part, around which the names t are bound.
  one-fired : (c : In) (t : Names Bool) (a b : Ex) (m k : Bool) → is_outside_views c ≡ true → names_at c [] ≡ marked_types t →
      StaysAt Typed c [] → Bare cells t a k → ((f : Ex) → Bare cells t f k → Bare cells [] (fill c f) m) → Fires a b k →
      StaysBare cells (fill c a) (fill c b) m
  one-fired c t a b m k o y x h again u = record {
    bare = again b (stays-bare cells t a b k h u);
    kept = λ env v. let w = at-whole env v in (w.0, w.1 v);
    scoped = λ z s n q. scopes-stay.at_a_part z c (record { all = s; over_domains = n }) a b o
        (λ w. fired-scoped cells t a b k h u z _ _ w) q;
    spells = λ q n. part-spells q c a b (fired-spells cells t a b k h u q) n;
    binds = at-part a b (fired-binds cells t a b k h u) c;
    fits = part-fits a b (fired-fits cells t a b k h u) c;
  }
    where
      there : (env : Env) → Where c env (Typed (marked_types t))
      there env = subst (λ g. Where c env (Typed g)) y (where-under Typed c [] env x (no-typed env))

      at-whole : (env : Env) → Valued false (fill c a) env → KeepsValues false (fill c a) (fill c b) env
      at-whole env v = values-along.at_a_part c false a b env o
          (where-join (Typed (marked_types t)) (Valued (natural_at a c false) a) (KeepsValues (natural_at a c false) a b)
          (λ here p q. let w = fired-keeps cells t here p a b k h u (natural_at a c false) q in (w.0, λ z. w.1)) c env (there env)
          (valued-part a c false env o v))

  -- What a rule makes of a part.
  one-turn : (c : In) (t : Names Bool) (a b : Ex) (m : Bool) → is_outside_views c ≡ true → names_at c [] ≡ marked_types t →
      StaysAt Typed c [] → Part cells (λ f. Bare cells [] (fill c f) m) t a → (n j : ℕ) → IsRuled n (names_at c []) a b j →
      StaysBare cells (fill c a) (fill c b) m
  one-turn c t a b m o y x (scalar k h again) n j i = one-fired c t a b m k o y x h again
      (by-ruling (supply_at n i.count) t i.rule a b k h (subst (λ g. ruled (supply_at n i.count) g i.rule a ≡ Some b) y
      (at-itself n (names_at c []) a b j i (bare-root h))))
  one-turn c t a b m o y x (items {u = u} {e = e} {gs = gs} k h) n j i =
      absurd (at-list (supply_at n i.count) (names_at c []) t u i.rule e b gs k
      (at-itself n (names_at c []) (comp_ex e gs) b j i (list-root e k)))

  -- ---- a chain

  -- So it is along a chain.
  pub stay-bare : (n k : ℕ) (old last : Ex) (m : Bool) → Bare cells [] old m → Leads IsRuled n [] old last k → StaysBare cells old last m
  stay-bare n k old last m f (as_it_was p) = itself old m f
  stay-bare n k old last m f (led_at {s = s} {k = j} {a = a} {b = b} c p r w) =
      let q = bare-part cells [] c a m f in
      let x = one-turn c q.around a b m q.outside q.types q.stays q.part s j r in
      chained (fill c a) (fill c b) last m x (stay-bare j k (fill c b) last m x.bare w)

-- What is proved of chains in bare trees.
pub bare-trees-stay-bare : BareTreesStayBare
bare-trees-stay-bare cells n k old last m f w = stay-bare cells n k old last m f w
