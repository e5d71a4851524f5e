-- Weakening and substitution: values of names that agree on the names in use give the same meaning, and an expression put
-- in for a name means what the tree means where the name has its value.
use Rattle.std.proofs.Common.{◌≡◌, refl, sym, ap, ◌∙◌, subst, Bool, true, false, not, List, ◌∷◌, Option, Some, if◌then◌else◌}
use Rattle.std.specs.Prelude.{IsTrue}
use Rattle.std.specs.Ordering.{is_eq}
use Rattle.std.proofs.lemmas.Cmp.{tied_itself}
use Rattle.ess_semantics.specs.Values.{Text, Value}
use Rattle.ess_semantics.specs.Order.{order_text, same_text}
use Rattle.ess_semantics.specs.Names.{Names, look}
use Rattle.ess_semantics.specs.Trees.{Ex, Exs, name_ex, Gens, Dom}
use Rattle.ess_semantics.specs.Tables.{Table}
use Rattle.ess_semantics.specs.Meaning.{Env, TypeEntry, meaning, meanings, items_under, domain_of}
use Rattle.ess_semantics.specs.Substitution.{substitute, substitute_gens, for_name, NamesAre, NamesAreExs, NamesAreGens, NamesAreDom}
use Rattle.ess_semantics.proofs.Orders.{text_exact, text_total, equal-of}
use Rattle.ess_rules_laws.proofs.Simulation.{Vals, E, any, but, meaning-sim, meanings-sim, items-sim, domain-sim}

-- ---- names

-- Names that count as equal are equal.
pub same_text-equal : (a b : Text) → same_text a b ≡ true → a ≡ b
same_text-equal a b e = text_exact a b (equal-of (order_text a b) e)

-- A name equals itself.
pub same_text-itself : (a : Text) → same_text a a ≡ true
same_text-itself a = ap is_eq (tied_itself text_total a)

-- A name has the value that it has just been given.
pub look-itself : {A : Type 0} (x : Text) (v : A) (g : Names A) → look ((x, v) ∷ g) x ≡ Some v
look-itself x v g = ap (λ b. if b then Some v else look g x) (same_text-itself x)

-- ---- weakening

-- The two give the names in n the same values.
abbrev pub AgreeOn : (Text → Bool) → Vals → Vals → Type 0
AgreeOn n g h = (a : Text) → IsTrue (n a) → look g a ≡ look h a

-- Values that agree still do so with one more value.
pub agree-bound : (n : Text → Bool) (a : Text) (v : Value) (g h : Vals) → AgreeOn n g h → AgreeOn n ((a, v) ∷ g) ((a, v) ∷ h)
agree-bound n a v g h s = λ c q. ap (λ o. if same_text a c then Some v else o) (s c q)

-- All names but x have the values that they had before x got one.
pub agree-but : (x : Text) (v : Value) (g : Vals) → AgreeOn (but x) g ((x, v) ∷ g)
agree-but x v g = λ a q. go (same_text x a) a q
  where
    go : (b : Bool) (a : Text) → IsTrue (not b) → look g a ≡ (if b then Some v else look g a)
    go true a q = cc
    go false a q = refl

-- With two values of x all other names have the same values.
pub agree-both : (x : Text) (v w : Value) (g : Vals) → AgreeOn (but x) ((x, v) ∷ g) ((x, w) ∷ g)
agree-both x v w g a q = sym (agree-but x v g a q) ∙ agree-but x w g a q

-- The names that aren't in s.
abbrev pub outside : (Text → Bool) → Text → Bool
outside s a = not (s a)

-- A value of a name outside s changes nothing for the names in s.
pub agree-outside : (s : Text → Bool) (a : Text) (v : Value) (g : Vals) → IsTrue (outside s a) → AgreeOn s g ((a, v) ∷ g)
agree-outside s a v g h = λ c q. go c (same_text a c) refl q
  where
    no : (b : Bool) → IsTrue (not b) → IsTrue b → ⊥
    no true h q = cc
    no false h q = cc

    go : (c : Text) (b : Bool) → same_text a c ≡ b → IsTrue (s c) → look g c ≡ (if b then Some v else look g c)
    go c true e q = absurd (no (s a) h (subst (λ y. IsTrue (s y)) (sym (same_text-equal a c e)) q))
    go c false e q = refl

module _ (pl : Bool) (ts : List TypeEntry) (cs : Names Table) (n : Text → Bool) where
  -- What the induction over trees asks where each name stands for itself.
  pub itself-named : (a : Text) (g h : Vals) → IsTrue (n a) → AgreeOn n g h → meaning (name_ex a) (E pl ts cs h) ≡ look g a
  itself-named a g h o s = sym (s a o)

  -- The same at a name that is bound.
  pub itself-bound : (a : Text) (v : Value) (g h : Vals) → IsTrue (any a) → AgreeOn n g h → AgreeOn n ((a, v) ∷ g) ((a, v) ∷ h)
  itself-bound a v g h o s = agree-bound n a v g h s

  same : (g : Vals) → AgreeOn n g g
  same g a q = refl

  -- An expression that uses names in n alone means the same under values that agree on n.
  pub meaning-agree : (e : Ex) (g h : Vals) → NamesAre n any e → AgreeOn n g h → meaning e (E pl ts cs h) ≡ meaning e (E pl ts cs g)
  meaning-agree e g h o s =
      sym (meaning-sim pl ts cs name_ex n any (AgreeOn n) itself-named itself-bound e h h o (same h))
      ∙ meaning-sim pl ts cs name_ex n any (AgreeOn n) itself-named itself-bound e g h o s

  -- The same of several expressions.
  pub meanings-agree : (es : Exs) (g h : Vals) → NamesAreExs n any es → AgreeOn n g h → meanings es (E pl ts cs h) ≡ meanings es (E pl ts cs g)
  meanings-agree es g h o s =
      sym (meanings-sim pl ts cs name_ex n any (AgreeOn n) itself-named itself-bound es h h o (same h))
      ∙ meanings-sim pl ts cs name_ex n any (AgreeOn n) itself-named itself-bound es g h o s

  -- The same of a domain.
  pub domain-agree : (d : Dom) (g h : Vals) → NamesAreDom n any d → AgreeOn n g h → domain_of d (E pl ts cs h) ≡ domain_of d (E pl ts cs g)
  domain-agree d g h o s =
      sym (domain-sim pl ts cs name_ex n any (AgreeOn n) itself-named itself-bound d h h o (same h))
      ∙ domain-sim pl ts cs name_ex n any (AgreeOn n) itself-named itself-bound d g h o s

-- ---- substitution of w for x, where x and the names of w are in s, and the tree binds no name in s

module _ (pl : Bool) (ts : List TypeEntry) (cs : Names Table) (s : Text → Bool) (x : Text) (w : Ex) (here : IsTrue (s x)) (scoped : NamesAre s any w) where
  -- Under g the name x has the value that w has under h, and the other names have the same values.
  abbrev pub Put : Vals → Vals → Type 0
  Put g h = AgreeOn (but x) g h × (meaning w (E pl ts cs h) ≡ look g x)

  -- What the induction over trees asks.
  pub put-named : (a : Text) (g h : Vals) → IsTrue (any a) → Put g h → meaning (for_name x w a) (E pl ts cs h) ≡ look g a
  put-named a g h o p = go (same_text x a) refl
    where
      go : (b : Bool) → same_text x a ≡ b → meaning (if b then w else name_ex a) (E pl ts cs h) ≡ look g a
      go true q = p.1 ∙ ap (look g) (same_text-equal x a q)
      go false q = sym (p.0 a (ap not q))

  -- The same at a name that is bound.
  pub put-bound : (a : Text) (v : Value) (g h : Vals) → IsTrue (outside s a) → Put g h → Put ((a, v) ∷ g) ((a, v) ∷ h)
  put-bound a v g h o p =
      (agree-bound (but x) a v g h p.0, meaning-agree pl ts cs s w h ((a, v) ∷ h) scoped (agree-outside s a v h o) ∙ p.1 ∙ agree-outside s a v g o x here)

  -- With w put for x a tree means under h what it means under g.
  pub meaning-put : (e : Ex) (g h : Vals) → NamesAre any (outside s) e → Put g h → meaning (substitute (for_name x w) e) (E pl ts cs h) ≡ meaning e (E pl ts cs g)
  meaning-put = meaning-sim pl ts cs (for_name x w) any (outside s) Put put-named put-bound

  -- Generators give the same items, where what stands behind them does.
  pub items-put : (gs : Gens) (g h : Vals) (k k' : Env → Option (List Value)) → NamesAreGens any (outside s) gs → Put g h →
      ((g' h' : Vals) → Put g' h' → k' (E pl ts cs h') ≡ k (E pl ts cs g')) → items_under (substitute_gens (for_name x w) gs) (E pl ts cs h) k' ≡ items_under gs (E pl ts cs g) k
  items-put = items-sim pl ts cs (for_name x w) any (outside s) Put put-named put-bound

  -- The value of w as the value of x.
  pub put-value : (v : Value) (g : Vals) → meaning w (E pl ts cs g) ≡ Some v → Put ((x, v) ∷ g) g
  put-value v g e = ((λ a q. sym (agree-but x v g a q)), e ∙ sym (look-itself x v g))

  -- A tree with w put for x means what the tree means where x has the value of w.
  pub meaning-substituted : (v : Value) (e : Ex) (g : Vals) → NamesAre any (outside s) e → meaning w (E pl ts cs g) ≡ Some v →
      meaning (substitute (for_name x w) e) (E pl ts cs g) ≡ meaning e (E pl ts cs ((x, v) ∷ g))
  meaning-substituted v e g o q = meaning-put e ((x, v) ∷ g) g o (put-value v g q)
