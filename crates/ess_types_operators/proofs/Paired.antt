-- The loops over two lists side by side.
use Rattle.std.proofs.Common.{◌≡◌, refl, sym, ap, ◌∙◌, ℕ, zero, suc, ◌+◌, ◌<◌, ◌≤◌, true, false, List, [], ◌∷◌, ◌++◌, length, map, drop, get_or, Option, Some, None, option_map, arith}
use Rattle.std.specs.Prelude.{is_some}
use Rattle.std.proofs.lemmas.List.{at_drop_more, at_drop_all, map_push}
use Rattle.ess_semantics.specs.Lists.{and_then}
use Rattle.ess_types_operators.specs.Paired.{paired}
use Rattle.ess_types_operators.proofs.Ahead.{ahead, ahead_all, ahead_one}

-- ---- what is left of two lists

paired-none : {A B : Type 0} (j : A → A → Option B) (xs ys : List A) (i : ℕ) → i < length xs → length ys ≤ i → paired j (drop i xs) (drop i ys) ≡ None
paired-none {A = A} j xs ys i h k = at_drop_all (λ l. paired j (drop i xs) l) ys i k ∙ behind xs i h
  where
    behind : (zs : List A) (i : ℕ) → i < length zs → paired j (drop i zs) [] ≡ None
    behind [] i h = absurd (omega arith)
    behind (z ∷ zs) zero h = refl
    behind (z ∷ zs) (suc i) h = behind zs i (omega arith)

paired-less : {A B : Type 0} (j : A → A → Option B) (xs ys : List A) (i : ℕ) → length xs ≤ i → i < length ys → paired j (drop i xs) (drop i ys) ≡ None
paired-less {A = A} j xs ys i h k = at_drop_all (λ l. paired j l (drop i ys)) xs i h ∙ behind ys i k
  where
    behind : (zs : List A) (i : ℕ) → i < length zs → paired j [] (drop i zs) ≡ None
    behind [] i h = absurd (omega arith)
    behind (z ∷ zs) zero h = refl
    behind (z ∷ zs) (suc i) h = behind zs i (omega arith)

paired-all : {A B : Type 0} (j : A → A → Option B) (xs ys : List A) (i : ℕ) → length xs ≤ i → length ys ≤ i → paired j (drop i xs) (drop i ys) ≡ Some []
paired-all j xs ys i h k = at_drop_all (λ l. paired j l (drop i ys)) xs i h ∙ at_drop_all (λ l. paired j [] l) ys i k

paired-more : {A B : Type 0} (j : A → A → Option B) (xs ys : List A) (i : ℕ) (x y : A) → i < length xs → i < length ys → x ≡ get_or xs i x → y ≡ get_or ys i y
    → paired j (drop i xs) (drop i ys) ≡ and_then (j x y) (λ v. option_map (λ vs. v ∷ vs) (paired j (drop (i + 1) xs) (drop (i + 1) ys)))
paired-more j xs ys i x y h k is it =
    at_drop_more (λ l. paired j l (drop i ys)) xs i x h
    ∙ at_drop_more (λ l. paired j (get_or xs i x ∷ drop (i + 1) xs) l) ys i y k
    ∙ ap (λ s. paired j (s ∷ drop (i + 1) xs) (get_or ys i y ∷ drop (i + 1) ys)) (sym is)
    ∙ ap (λ s. paired j (x ∷ drop (i + 1) xs) (s ∷ drop (i + 1) ys)) (sym it)

-- ---- whether each pair has something

pub some_mapped : {A B : Type 0} (f : A → B) (o : Option A) → is_some (option_map f o) ≡ is_some o
some_mapped f None = refl
some_mapped f (Some x) = refl

-- the first pair has something
pub test_more : {A B : Type 0} (j : A → A → Option B) (xs ys : List A) (i : ℕ) (x y : A) → i < length xs → i < length ys → x ≡ get_or xs i x → y ≡ get_or ys i y
    → is_some (j x y) ≡ true → is_some (paired j (drop i xs) (drop i ys)) ≡ is_some (paired j (drop (i + 1) xs) (drop (i + 1) ys))
test_more {B = B} j xs ys i x y h k is it e = ap is_some (paired-more j xs ys i x y h k is it) ∙ go (j x y) e
  where
    go : (o : Option B) → is_some o ≡ true → is_some (and_then o (λ v. option_map (λ vs. v ∷ vs) (paired j (drop (i + 1) xs) (drop (i + 1) ys)))) ≡ is_some (paired j (drop (i + 1) xs) (drop (i + 1) ys))
    go None e = cc
    go (Some v) e = some_mapped (λ vs. v ∷ vs) (paired j (drop (i + 1) xs) (drop (i + 1) ys))

-- the first pair has nothing
pub test_none : {A B : Type 0} (j : A → A → Option B) (xs ys : List A) (i : ℕ) (x y : A) → i < length xs → i < length ys → x ≡ get_or xs i x → y ≡ get_or ys i y
    → is_some (j x y) ≡ false → is_some (paired j (drop i xs) (drop i ys)) ≡ false
test_none {B = B} j xs ys i x y h k is it e = ap is_some (paired-more j xs ys i x y h k is it) ∙ go (j x y) e
  where
    go : (o : Option B) → is_some o ≡ false → is_some (and_then o (λ v. option_map (λ vs. v ∷ vs) (paired j (drop (i + 1) xs) (drop (i + 1) ys)))) ≡ false
    go None e = refl
    go (Some v) e = cc

pub test_short : {A B : Type 0} (j : A → A → Option B) (xs ys : List A) (i : ℕ) → i < length xs → length ys ≤ i → is_some (paired j (drop i xs) (drop i ys)) ≡ false
test_short j xs ys i h k = ap is_some (paired-none j xs ys i h k)

pub test_long : {A B : Type 0} (j : A → A → Option B) (xs ys : List A) (i : ℕ) → length xs ≤ i → i < length ys → is_some (paired j (drop i xs) (drop i ys)) ≡ false
test_long j xs ys i h k = ap is_some (paired-less j xs ys i h k)

pub test_all : {A B : Type 0} (j : A → A → Option B) (xs ys : List A) (i : ℕ) → length xs ≤ i → length ys ≤ i → is_some (paired j (drop i xs) (drop i ys)) ≡ true
test_all j xs ys i h k = ap is_some (paired-all j xs ys i h k)

-- ---- what each pair has

pub each_more : {A B : Type 0} (j : A → A → Option B) (p : A → B) (xs ys zs us : List A) (i : ℕ) (x y z : A)
    → i < length xs → i < length ys → x ≡ get_or xs i x → y ≡ get_or ys i y → Some (p z) ≡ j x y → us ≡ zs ++ z ∷ []
    → ahead (map p us) (paired j (drop (i + 1) xs) (drop (i + 1) ys)) ≡ ahead (map p zs) (paired j (drop i xs) (drop i ys))
each_more j p xs ys zs us i x y z h k is it e q =
    ap (λ l. ahead (map p l) (paired j (drop (i + 1) xs) (drop (i + 1) ys))) q
    ∙ ap (λ l. ahead l (paired j (drop (i + 1) xs) (drop (i + 1) ys))) (map_push p zs z)
    ∙ ahead_one (map p zs) (p z) (paired j (drop (i + 1) xs) (drop (i + 1) ys))
    ∙ ap (λ o. ahead (map p zs) (and_then o (λ v. option_map (λ vs. v ∷ vs) (paired j (drop (i + 1) xs) (drop (i + 1) ys))))) e
    ∙ ap (ahead (map p zs)) (sym (paired-more j xs ys i x y h k is it))

pub each_none : {A B : Type 0} (j : A → A → Option B) (p : A → B) (xs ys zs : List A) (i : ℕ) (x y : A)
    → i < length xs → i < length ys → x ≡ get_or xs i x → y ≡ get_or ys i y → None ≡ j x y → ahead (map p zs) (paired j (drop i xs) (drop i ys)) ≡ None
each_none j p xs ys zs i x y h k is it e =
    ap (ahead (map p zs)) (paired-more j xs ys i x y h k is it)
    ∙ ap (λ o. ahead (map p zs) (and_then o (λ v. option_map (λ vs. v ∷ vs) (paired j (drop (i + 1) xs) (drop (i + 1) ys))))) (sym e)

pub each_short : {A B : Type 0} (j : A → A → Option B) (p : A → B) (xs ys zs : List A) (i : ℕ) → i < length xs → length ys ≤ i → ahead (map p zs) (paired j (drop i xs) (drop i ys)) ≡ None
each_short j p xs ys zs i h k = ap (ahead (map p zs)) (paired-none j xs ys i h k)

pub each_long : {A B : Type 0} (j : A → A → Option B) (p : A → B) (xs ys zs : List A) (i : ℕ) → length xs ≤ i → i < length ys → ahead (map p zs) (paired j (drop i xs) (drop i ys)) ≡ None
each_long j p xs ys zs i h k = ap (ahead (map p zs)) (paired-less j xs ys i h k)

pub each_all : {A B : Type 0} (j : A → A → Option B) (p : A → B) (xs ys zs : List A) (i : ℕ) → length xs ≤ i → length ys ≤ i → ahead (map p zs) (paired j (drop i xs) (drop i ys)) ≡ Some (map p zs)
each_all j p xs ys zs i h k = ap (ahead (map p zs)) (paired-all j xs ys i h k) ∙ ahead_all (map p zs)
