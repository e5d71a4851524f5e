-- What is resolved stands in front of what is left.
use Rattle.std.proofs.Common.{◌≡◌, refl, sym, ap, ◌∙◌, ℕ, ◌+◌, ◌<◌, ◌≤◌, List, [], ◌∷◌, ◌++◌, length, map, drop, get_or}
use Rattle.std.proofs.lemmas.List.{at_drop_more, at_drop_all, append_assoc, append-nil}
use Rattle.ess_semantics.specs.Names.{Names}
use Rattle.ess_semantics.specs.Kinds.{doms_of}
use Rattle.ess_semantics.specs.Types.{Ty}
use Rattle.ess_semantics.specs.Trees as tree
use Rattle.ess_semantics.specs.Trees.{Exs, more_exs, Doms, more_doms}
use Rattle.ess_semantics.specs.Resolving.{resolve, resolve_exs, resolve_dom, resolve_doms}
use Rattle.ess_core.specs.TreeViews.{exs_of}

-- ---- expressions

-- Expressions in front of others.
abbrev pub exs_ahead : List tree.Ex → Exs → Exs
exs_ahead [] es = es
exs_ahead (e ∷ l) es = more_exs e (exs_ahead l es)

ahead-append : (l m : List tree.Ex) (es : Exs) → exs_ahead (l ++ m) es ≡ exs_ahead l (exs_ahead m es)
ahead-append [] m es = refl
ahead-append (e ∷ l) m es = ap (more_exs e) (ahead-append l m es)

ahead-exs : (l m : List tree.Ex) → exs_ahead l (exs_of m) ≡ exs_of (l ++ m)
ahead-exs [] m = refl
ahead-exs (e ∷ l) m = ap (more_exs e) (ahead-exs l m)

ahead-resolved : (l : List tree.Ex) (es : Exs) (g : Names Ty)
    → exs_ahead (map (λ e. resolve e g) l) (resolve_exs es g) ≡ resolve_exs (exs_ahead l es) g
ahead-resolved [] es g = refl
ahead-resolved (e ∷ l) es g = ap (more_exs (resolve e g)) (ahead-resolved l es g)

module _ {A : Type 0} (f : List A → List tree.Ex) (v : A → List tree.Ex) (none : f [] ≡ [])
    (one : (x : A) (xs : List A) → f (x ∷ xs) ≡ v x ++ f xs) where
  pushed : (ys : List A) (y : A) → f (ys ++ y ∷ []) ≡ f ys ++ v y
  pushed [] y = one y [] ∙ ap (λ l. v y ++ l) none ∙ append-nil (v y) ∙ sym (ap (λ l. l ++ v y) none)
  pushed (x ∷ ys) y =
      one x (ys ++ y ∷ []) ∙ ap (λ l. v x ++ l) (pushed ys y) ∙ sym (append_assoc (v x) (f ys) (v y))
      ∙ sym (ap (λ l. l ++ v y) (one x ys))

  -- Items with expressions in them: one more is resolved.
  pub more : (xs ys zs : List A) (i : ℕ) (x y : A) (g : Names Ty) → i < length xs → x ≡ get_or xs i x
      → v y ≡ map (λ e. resolve e g) (v x) → zs ≡ ys ++ y ∷ []
      → exs_ahead (f zs) (resolve_exs (exs_of (f (drop (i + 1) xs))) g) ≡ exs_ahead (f ys) (resolve_exs (exs_of (f (drop i xs))) g)
  more xs ys zs i x y g l is e p =
      ap (λ zs. exs_ahead (f zs) (resolve_exs (exs_of (f (drop (i + 1) xs))) g)) p
      ∙ ap (λ l. exs_ahead l (resolve_exs (exs_of (f (drop (i + 1) xs))) g)) (pushed ys y)
      ∙ ahead-append (f ys) (v y) (resolve_exs (exs_of (f (drop (i + 1) xs))) g)
      ∙ ap (λ m. exs_ahead (f ys) (exs_ahead m (resolve_exs (exs_of (f (drop (i + 1) xs))) g))) e
      ∙ ap (exs_ahead (f ys)) (ahead-resolved (v x) (exs_of (f (drop (i + 1) xs))) g)
      ∙ ap (λ es. exs_ahead (f ys) (resolve_exs es g)) (ahead-exs (v x) (f (drop (i + 1) xs)))
      ∙ ap (λ es. exs_ahead (f ys) (resolve_exs (exs_of es) g)) (sym (one x (drop (i + 1) xs)))
      ∙ sym (at_drop_more (λ l. exs_ahead (f ys) (resolve_exs (exs_of (f l)) g)) xs i x l
      ∙ ap (λ z. exs_ahead (f ys) (resolve_exs (exs_of (f (z ∷ drop (i + 1) xs))) g)) (sym is))

  -- All of them are.
  pub all : (xs ys : List A) (i : ℕ) (g : Names Ty) → length xs ≤ i
      → exs_ahead (f ys) (resolve_exs (exs_of (f (drop i xs))) g) ≡ exs_of (f ys)
  all xs ys i g l =
      at_drop_all (λ l. exs_ahead (f ys) (resolve_exs (exs_of (f l)) g)) xs i l
      ∙ ap (λ l. exs_ahead (f ys) (resolve_exs (exs_of l) g)) none
      ∙ ahead-exs (f ys) [] ∙ ap exs_of (append-nil (f ys))

-- ---- domains

-- Domains in front of others.
abbrev pub doms_ahead : List tree.Dom → Doms → Doms
doms_ahead [] ds = ds
doms_ahead (d ∷ l) ds = more_doms d (doms_ahead l ds)

doms-ahead-append : (l m : List tree.Dom) (ds : Doms) → doms_ahead (l ++ m) ds ≡ doms_ahead l (doms_ahead m ds)
doms-ahead-append [] m ds = refl
doms-ahead-append (d ∷ l) m ds = ap (more_doms d) (doms-ahead-append l m ds)

doms-ahead-none : (l : List tree.Dom) → doms_ahead l (doms_of []) ≡ doms_of l
doms-ahead-none [] = refl
doms-ahead-none (d ∷ l) = ap (more_doms d) (doms-ahead-none l)

-- ---- the words of items

module _ {A W : Type 0} (f : List A → List W) (h : A → W) (none : f [] ≡ []) (one : (x : A) (xs : List A) → f (x ∷ xs) ≡ h x ∷ f xs) where
  words-pushed : (ys : List A) (y : A) → f (ys ++ y ∷ []) ≡ f ys ++ h y ∷ []
  words-pushed [] y = one y [] ∙ ap (λ l. h y ∷ l) none ∙ sym (ap (λ l. l ++ h y ∷ []) none)
  words-pushed (x ∷ ys) y = one x (ys ++ y ∷ []) ∙ ap (λ l. h x ∷ l) (words-pushed ys y) ∙ sym (ap (λ l. l ++ h y ∷ []) (one x ys))

  -- The words stay: one more.
  pub words-more : (xs ys zs : List A) (i : ℕ) (x y : A) → i < length xs → x ≡ get_or xs i x → h y ≡ h x → zs ≡ ys ++ y ∷ []
      → f zs ++ f (drop (i + 1) xs) ≡ f ys ++ f (drop i xs)
  words-more xs ys zs i x y l is e p =
      ap (λ zs. f zs ++ f (drop (i + 1) xs)) p
      ∙ ap (λ l. l ++ f (drop (i + 1) xs)) (words-pushed ys y)
      ∙ append_assoc (f ys) (h y ∷ []) (f (drop (i + 1) xs))
      ∙ ap (λ w. f ys ++ w ∷ f (drop (i + 1) xs)) e
      ∙ ap (λ l. f ys ++ l) (sym (one x (drop (i + 1) xs)))
      ∙ sym (at_drop_more (λ l. f ys ++ f l) xs i x l ∙ ap (λ z. f ys ++ f (z ∷ drop (i + 1) xs)) (sym is))

  -- All of them.
  pub words-all : (xs ys : List A) (i : ℕ) → length xs ≤ i → f ys ++ f (drop i xs) ≡ f ys
  words-all xs ys i l = at_drop_all (λ l. f ys ++ f l) xs i l ∙ ap (λ l. f ys ++ l) none ∙ append-nil (f ys)

module _ {A : Type 0} (f : List A → List tree.Dom) (v : A → tree.Dom) (none : f [] ≡ [])
    (one : (x : A) (xs : List A) → f (x ∷ xs) ≡ v x ∷ f xs) where
  -- Items with one domain in each: one more is resolved.
  pub doms-more : (xs ys zs : List A) (i : ℕ) (x y : A) (g : Names Ty) → i < length xs → x ≡ get_or xs i x
      → v y ≡ resolve_dom (v x) g → zs ≡ ys ++ y ∷ []
      → doms_ahead (f zs) (resolve_doms (doms_of (f (drop (i + 1) xs))) g) ≡ doms_ahead (f ys) (resolve_doms (doms_of (f (drop i xs))) g)
  doms-more xs ys zs i x y g l is e p =
      ap (λ zs. doms_ahead (f zs) (resolve_doms (doms_of (f (drop (i + 1) xs))) g)) p
      ∙ ap (λ l. doms_ahead l (resolve_doms (doms_of (f (drop (i + 1) xs))) g)) (words-pushed f v none one ys y)
      ∙ doms-ahead-append (f ys) (v y ∷ []) (resolve_doms (doms_of (f (drop (i + 1) xs))) g)
      ∙ ap (λ d. doms_ahead (f ys) (more_doms d (resolve_doms (doms_of (f (drop (i + 1) xs))) g))) e
      ∙ ap (λ ds. doms_ahead (f ys) (resolve_doms (doms_of ds) g)) (sym (one x (drop (i + 1) xs)))
      ∙ sym (at_drop_more (λ l. doms_ahead (f ys) (resolve_doms (doms_of (f l)) g)) xs i x l
      ∙ ap (λ z. doms_ahead (f ys) (resolve_doms (doms_of (f (z ∷ drop (i + 1) xs))) g)) (sym is))

  -- All of them are.
  pub doms-all : (xs ys : List A) (i : ℕ) (g : Names Ty) → length xs ≤ i
      → doms_ahead (f ys) (resolve_doms (doms_of (f (drop i xs))) g) ≡ doms_of (f ys)
  doms-all xs ys i g l =
      at_drop_all (λ l. doms_ahead (f ys) (resolve_doms (doms_of (f l)) g)) xs i l
      ∙ ap (λ l. doms_ahead (f ys) (resolve_doms (doms_of l) g)) none ∙ doms-ahead-none (f ys)
