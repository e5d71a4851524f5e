-- The domains of declarations, one after the other.
use Rattle.std.proofs.Common.{◌≡◌, refl, sym, ap, ◌∙◌, ℕ, zero, suc, ◌+◌, ◌<◌, ◌≤◌, Bool, true, false, ◌&&◌, ◌||◌, List, [], ◌∷◌, ◌++◌, map, length, get_or, take, arith}
use Rattle.std.specs.List.{list_all, list_any}
use Rattle.std.proofs.lemmas.List.{take_more, take_all}
use Rattle.ess_semantics.specs.DeclaredTables.{TableDecl}
use Rattle.ess_grammar.specs.Models.{Scope}
use Rattle.eprime_tree.specs.declared.models.PDecl.{PDecl}
use Rattle.eprime_tree.specs.Views.{pure_decl, pure_decls}
use Rattle.eprime_verdicts.specs.Denoting.{Beside}

-- ---- items side by side

module _ {A B : Type 0} (P : A → B → Type 0) where
  -- Two items behind lists.
  pub beside-push : (xs : List A) (ys : List B) (x : A) (y : B) → Beside P xs ys → P x y → Beside P (xs ++ x ∷ []) (ys ++ y ∷ [])
  beside-push [] [] x y h p = (p, tt)
  beside-push [] (z ∷ ys) x y h p = absurd h
  beside-push (w ∷ xs) [] x y h p = absurd h
  beside-push (w ∷ xs) (z ∷ ys) x y h p = (h.0, beside-push xs ys x y h.1 p)

  -- One item more on each side.
  pub beside-more : (xs : List A) (i : ℕ) (x : A) (ys zs : List B) (y : B) → i < length xs → x ≡ get_or xs i x → Beside P (take i xs) ys → P x y → zs ≡ ys ++ y ∷ []
      → Beside P (take (i + 1) xs) zs
  beside-more xs i x ys zs y l g h p e =
      rw (e, take_more xs i x l ∙ ap (λ z. take i xs ++ z ∷ []) (sym g)) (beside-push (take i xs) ys x y h p)

-- ---- an item that fails

-- A conjunction fails by its second part, and a disjunction holds by it.
pub and-lost : (b : Bool) {c : Bool} → c ≡ false → b && c ≡ false
and-lost true e = e
and-lost false e = refl

pub or-won : (b : Bool) {c : Bool} → c ≡ true → b || c ≡ true
or-won true e = refl
or-won false e = e

-- One item without the property.
pub all-not : {A B : Type 0} → (p : B → Bool) (f : A → B) (xs : List A) (i : ℕ) (x : A) → i < length xs → x ≡ get_or xs i x → p (f x) ≡ false → list_all p (map f xs) ≡ false
all-not p f [] i x l g h = absurd (omega arith)
all-not p f (y ∷ ys) zero x l g h = ap (λ z. p (f z) && list_all p (map f ys)) (sym g) ∙ ap (λ b. b && list_all p (map f ys)) h
all-not p f (y ∷ ys) (suc i) x l g h = and-lost (p (f y)) (all-not p f ys i x (omega arith) g h)

-- One item with the property.
pub any-one : {A B : Type 0} → (p : B → Bool) (f : A → B) (xs : List A) (i : ℕ) (x : A) → i < length xs → x ≡ get_or xs i x → p (f x) ≡ true → list_any p (map f xs) ≡ true
any-one p f [] i x l g h = absurd (omega arith)
any-one p f (y ∷ ys) zero x l g h = ap (λ z. p (f z) || list_any p (map f ys)) (sym g) ∙ ap (λ b. b || list_any p (map f ys)) h
any-one p f (y ∷ ys) (suc i) x l g h = or-won (p (f y)) (any-one p f ys i x (omega arith) g h)

-- The same of declarations, in whatever scopes.
pub decls-not : (p : TableDecl → Bool) (add : Scope → TableDecl → Scope) (s : Scope) (ds : List PDecl) (i : ℕ) (d : PDecl) → i < length ds → d ≡ get_or ds i d
    → ((t : Scope) → p (pure_decl t d) ≡ false) → list_all p (pure_decls add s ds) ≡ false
decls-not p add s [] i d l g h = absurd (omega arith)
decls-not p add s (e ∷ es) zero d l g h =
    ap (λ z. p (pure_decl s z) && list_all p (pure_decls add (add s (pure_decl s e)) es)) (sym g)
    ∙ ap (λ b. b && list_all p (pure_decls add (add s (pure_decl s e)) es)) (h s)
decls-not p add s (e ∷ es) (suc i) d l g h = and-lost (p (pure_decl s e)) (decls-not p add (add s (pure_decl s e)) es i d (omega arith) g h)

pub decls-one : (p : TableDecl → Bool) (add : Scope → TableDecl → Scope) (s : Scope) (ds : List PDecl) (i : ℕ) (d : PDecl) → i < length ds → d ≡ get_or ds i d
    → ((t : Scope) → p (pure_decl t d) ≡ true) → list_any p (pure_decls add s ds) ≡ true
decls-one p add s [] i d l g h = absurd (omega arith)
decls-one p add s (e ∷ es) zero d l g h =
    ap (λ z. p (pure_decl s z) || list_any p (pure_decls add (add s (pure_decl s e)) es)) (sym g)
    ∙ ap (λ b. b || list_any p (pure_decls add (add s (pure_decl s e)) es)) (h s)
decls-one p add s (e ∷ es) (suc i) d l g h = or-won (p (pure_decl s e)) (decls-one p add (add s (pure_decl s e)) es i d (omega arith) g h)
