-- A lean tree in which no bound name hides another one stays lean with plain keys, and its indices are numbers.
use Rattle.std.proofs.Common.{◌≡◌, refl, sym, subst, ℕ, Bool, true, false, if◌then◌else◌, [], ◌∷◌, ℤ, pos, Option, Some, None}
use Rattle.ess_semantics.specs.declared.words.Fun.{Fun}
use Rattle.ess_semantics.specs.Lists.{or_default}
use Rattle.ess_semantics.specs.Values.{Text}
use Rattle.ess_semantics.specs.Names.{Names}
use Rattle.ess_semantics.specs.Trees.{name_pat, Ex, Exs, Gens, over, Dom, bool_dom, int_dom, fun1}
use Rattle.ess_semantics.specs.Scoped.{with_names, Scoped, ScopedExs, ScopedGens}
use Rattle.ess_semantics.proofs.Tests.{not-true}
use Rattle.ess_guard_laws.specs.Origins.{is_sure}
use Rattle.ess_keys_laws.specs.KeyForms.{key_of}
use Rattle.ess_keys_laws.specs.Keyed.{Around, nothing_around, key_now, if_sure, entered, generator_before, keyed, keyed_all, keyed_gens, keyed_behind}
use Rattle.ess_flat_laws.specs.Flat.{both}
use Rattle.ess_bare_laws.specs.Bare.{before, not_behind}
use Rattle.ess_bare_laws.specs.Lean.{Lean, a_number, a_truth, a_name, a_cell, by_one, by_two, by_power, by_truth, by_fold, by_items, by_greatest, by_order, Leans, last_lean, more_leans, Terms, no_terms, more_terms, Row, listed, alone, Ranging, behind_all, over_truths, over_numbers, under}
use Rattle.ess_bare_written_laws.proofs.Origins.{MarkOf, of_truths, of_numbers, no_origins, indices-lean}
use Rattle.ess_bare_written_laws.proofs.Keys.{OkKey, Key, key_number, key_name, key-of-ok, sure-key, Known, known-over, known-key, now-ok}
use Rattle.ess_bare_written_laws.proofs.KeyedNodes.{no-fold, fold-lean, items-lean, conjunction-lean, row-lean, conditions-lean}

module _ (cells : Text → Option (Bool × ℕ)) (ok : ℤ → Bool) (fine : Text → Bool) (zero_ok : ok (pos 0) ≡ true)
    (one_ok : ok (pos 1) ≡ true) where
  abbrev S : Names Bool → Ex → Bool → Type 0
  S = Lean cells ok fine false

  abbrev T : Names Bool → Ex → Bool → Type 0
  T = Lean cells ok fine true

  from-key : {u : Names Bool} {t : Ex} {m : Bool} → Key ok u t m → T u t m
  from-key (key_number h) = a_number h
  from-key (key_name q) = a_name q

  module _ (z : Text → Bool) where
    -- What stands behind generators that have become hs: the names that are left, and what is known there of the names r.
    pub record Behind (x : Ex) (r : Names Bool) (u : Names Bool) (hs : Gens) (c : Around) : Type 0 where
      pub left : Names Bool
      pub scope : Text → Bool
      pub ranging : Text → Bool
      pub gens : Ranging cells ok fine true u hs left
      pub known : Known ok scope r c left
      pub scoped : Scoped z scope ranging x

    -- What is asked of generators.
    abbrev Follows : Ex → Names Bool → Gens → Names Bool → Type 0
    Follows x r gs t =
        (s o : Text → Bool) (c : Around) (u : Names Bool) → Known ok s r c u → ScopedGens z s o gs (λ s o. Scoped z s o x) →
        Behind x t u (keyed_gens c gs) (keyed_behind c gs)

    -- One more generator.
    module _ (x : Ex) (r t : Names Bool) (j : Text) (d : Dom) (m : Bool) (gs : Gens) (w : MarkOf d m)
        (follows : Follows x ((j, m) ∷ r) gs t)
        (key_ok : (y : Ex) → key_of j gs ≡ Some y → OkKey ok y) (s o : Text → Bool) (c : Around) (u : Names Bool) (K : Known ok s r c u)
        (new : s j ≡ false) (scoped : ScopedGens z (with_names s (name_pat j)) (with_names o (name_pat j)) gs (λ s o. Scoped z s o x))
        (put : (v : Names Bool) (hs : Gens) → Ranging cells ok fine true ((j, m) ∷ u) hs v →
        Ranging cells ok fine true u (over (name_pat j) d hs) v) where
      abbrev Result : Option Ex → Type 0
      Result y = Behind x t u (generator_before (name_pat j) d y (keyed_gens (entered c (name_pat j) d y) gs))
          (keyed_behind (entered c (name_pat j) d y) gs)

      without : Result None
      without =
          let b = follows (with_names s (name_pat j)) (with_names o (name_pat j)) (entered c (name_pat j) d None) ((j, m) ∷ u)
          (known-over ok s r c u K j d m w new) scoped in
          record {
            left = b.left;
            scope = b.scope;
            ranging = b.ranging;
            gens = put b.left (keyed_gens (entered c (name_pat j) d None) gs) b.gens;
            known = b.known;
            scoped = b.scoped;
          }

      sure : (y : Ex) → OkKey ok y → is_sure c.origins (key_now c.keys y) d ≡ true → Result (Some (key_now c.keys y))
      sure y h q =
          let g = now-ok ok s r c u K j d m y h in
          let b = follows (with_names s (name_pat j)) (with_names o (name_pat j)) (entered c (name_pat j) d (Some (key_now c.keys y))) u
          (known-key ok s r c u K j d m (key_now c.keys y) (sure-key ok K.origins (key_now c.keys y) w g q) g) scoped in
          record { left = b.left; scope = b.scope; ranging = b.ranging; gens = b.gens; known = b.known; scoped = b.scoped }

      asked : (y : Ex) → OkKey ok y → (b : Bool) → is_sure c.origins (key_now c.keys y) d ≡ b →
          Result (if b then Some (key_now c.keys y) else None)
      asked y h true q = sure y h q
      asked y h false q = without

      pub over-follows : Result (if_sure c d (key_of j gs))
      over-follows = go (key_of j gs) refl
        where
          go : (y : Option Ex) → key_of j gs ≡ y → Result (if_sure c d y)
          go None q = without
          go (Some y) q = asked y (key_ok y q) (is_sure c.origins (key_now c.keys y) d) refl

    mutual
      pub keyed-lean : {r : Names Bool} {e : Ex} {m : Bool} → S r e m → (s o : Text → Bool) (c : Around) (u : Names Bool) →
          Known ok s r c u → Scoped z s o e → T u (keyed c e) m
      keyed-lean (a_number q) s o c u K sc = a_number q
      keyed-lean a_truth s o c u K sc = a_truth
      keyed-lean (a_name {a = a} {m = m} q) s o c u K sc = from-key (K.stands a m q)
      keyed-lean (a_cell q l) s o c u K sc =
          a_cell q (indices-lean cells ok fine K.origins zero_ok one_ok (keyed-terms l s o c u K sc))
      keyed-lean (by_one w f) s o c u K sc = by_one w (keyed-lean f s o c u K sc.0)
      keyed-lean (by_two both f h) s o c u K sc =
          conjunction-lean cells ok fine (keyed-lean f s o c u K sc.0) (keyed-lean h s o c u K sc.1.0)
      keyed-lean (by_two w f h) s o c u K sc = by_two w (keyed-lean f s o c u K sc.0) (keyed-lean h s o c u K sc.1.0)
      keyed-lean (by_power f h) s o c u K sc = by_power (keyed-lean f s o c u K sc.0) (keyed-lean h s o c u K sc.1.0)
      keyed-lean (by_truth {x = x} f) s o c u K sc =
          let g = keyed-lean f s o c u K sc.0 in
          subst (λ y. T u (or_default y (fun1 false Fun.ToInt (keyed c x))) false)
          (sym (no-fold cells ok fine c.origins g false Fun.ToInt)) (by_truth g)
      keyed-lean (by_fold {e = e} w l f) s o c u K sc =
          let b = keyed-ranging l e s o c u K sc.0 in
          fold-lean cells ok fine K.origins w b.gens (keyed-lean f b.scope b.ranging _ b.left b.known b.scoped)
      keyed-lean (by_items w l) s o c u K sc = items-lean cells ok fine K.origins w (keyed-leans l s o c u K sc.0)
      keyed-lean (by_greatest f h) s o c u K sc = by_greatest (keyed-lean f s o c u K sc.0.0) (keyed-lean h s o c u K sc.0.1.0)
      keyed-lean (by_order before f h) s o c u K sc = by_order before (keyed-row f s o c u K sc.0) (keyed-row h s o c u K sc.1.0)
      keyed-lean (by_order not_behind f h) s o c u K sc = by_order not_behind (keyed-row f s o c u K sc.0) (keyed-row h s o c u K sc.1.0)

      keyed-leans : {r : Names Bool} {es : Exs} {m : Bool} → Leans cells ok fine false r es m → (s o : Text → Bool) (c : Around)
          (u : Names Bool) → Known ok s r c u → ScopedExs z s o es → Leans cells ok fine true u (keyed_all c es) m
      keyed-leans (last_lean f) s o c u K sc = last_lean (keyed-lean f s o c u K sc.0)
      keyed-leans (more_leans f l) s o c u K sc = more_leans (keyed-lean f s o c u K sc.0) (keyed-leans l s o c u K sc.1)

      keyed-terms : {w : Bool} {r : Names Bool} {es : Exs} {k : ℕ} → Terms cells ok fine false w r es k → (s o : Text → Bool) (c : Around)
          (u : Names Bool) → Known ok s r c u → ScopedExs z s o es → Terms cells ok fine true w u (keyed_all c es) k
      keyed-terms no_terms s o c u K sc = no_terms
      keyed-terms (more_terms w f l) s o c u K sc = more_terms w (keyed-lean f s o c u K sc.0) (keyed-terms l s o c u K sc.1)

      keyed-row : {r : Names Bool} {e : Ex} {m : Bool} → Row cells ok fine false r e m → (s o : Text → Bool) (c : Around) (u : Names Bool) →
          Known ok s r c u → Scoped z s o e → Row cells ok fine true u (keyed c e) m
      keyed-row (listed {e = e} l f) s o c u K sc =
          let b = keyed-ranging l e s o c u K sc in
          row-lean cells ok fine b.gens (keyed-lean f b.scope b.ranging _ b.left b.known b.scoped)
      keyed-row (alone f) s o c u K sc = alone (keyed-lean f s o c u K sc.0)

      keyed-ranging : {r t : Names Bool} {gs : Gens} → Ranging cells ok fine false r gs t → (x : Ex) → Follows x r gs t
      keyed-ranging behind_all x s o c u K sc =
          record { left = u; scope = s; ranging = o; gens = behind_all; known = K; scoped = sc }
      keyed-ranging (over_truths {r = r} {t = t} {a = a} {gs = gs} q l) x s o c u K sc =
          over-follows x r t a bool_dom true gs of_truths (keyed-ranging l x) (key-of-ok ok cells fine l a) s o c u K
          (not-true (s a) sc.0) sc.2 (λ v hs g. over_truths q g)
      keyed-ranging (over_numbers {r = r} {t = t} {a = a} {rs = rs} {es = es} {gs = gs} q b n l) x s o c u K sc =
          over-follows x r t a (int_dom rs (keyed_all c es)) false gs of_numbers (keyed-ranging l x) (key-of-ok ok cells fine l a) s o c u K
          (not-true (s a) sc.0) sc.2 (λ v hs g. over_numbers q b (keyed-terms n s o c u K sc.1) g)
      keyed-ranging (under f l) x s o c u K sc =
          let b = keyed-ranging l x s o c u K sc.1 in record {
            left = b.left;
            scope = b.scope;
            ranging = b.ranging;
            gens = conditions-lean cells ok fine c.origins (keyed-lean f s o c u K sc.0) b.gens;
            known = b.known;
            scoped = b.scoped;
          }

    -- Nothing is bound.
    pub known-nothing : (s : Text → Bool) → Known ok s [] nothing_around []
    known-nothing s = record {
      origins = no_origins;
      stands = λ a m q. cc;
      keys_in = λ a t q. cc;
      names_in = λ a m q. cc;
    }
