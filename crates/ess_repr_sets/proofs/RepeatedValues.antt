-- Values that are repeated as often as numbers say, one step on and at the end.
use Rattle.std.proofs.Common.{◌≡◌, refl, sym, ap, ◌∙◌, ℕ, zero, suc, ◌+◌, ◌<◌, ◌≤◌, true, if◌then◌else◌, filter, nat_le, List, [], ◌∷◌, ◌++◌, map, length, drop, get_or, replicate, arith}
use Rattle.std.proofs.lemmas.Bool.{le-leb}
use Rattle.std.proofs.lemmas.List.{at_drop_more, drop_all, map-append, append_assoc}
use Rattle.ess_semantics.specs.Values.{Value}
use Rattle.ess_semantics.specs.Layers.{each_repeated, repeated}
use Rattle.ess_core.specs.declared.values.Val.{Val}
use Rattle.ess_core.specs.ValueViews.{pure_val}

-- ---- copies

map-replicate : (n : ℕ) (v : Val) → map pure_val (replicate n v) ≡ replicate n (pure_val v)
map-replicate zero v = refl
map-replicate (suc n) v = ap (λ l. pure_val v ∷ l) (map-replicate n v)

-- copies and what is left behind them
behind : (ws row : List Val) (n : ℕ) (v : Val) (rest : List Value) → ws ≡ row ++ replicate n v →
    map pure_val row ++ (replicate n (pure_val v) ++ rest) ≡ map pure_val ws ++ rest
behind ws row n v rest p =
    ap (λ l. map pure_val row ++ (l ++ rest)) (sym (map-replicate n v)) ∙ sym (append_assoc (map pure_val row) (map pure_val (replicate n v)) rest)
    ∙ ap (λ l. l ++ rest) (sym (map-append pure_val row (replicate n v)) ∙ ap (map pure_val) (sym p))

-- One number with its value.
pub each_next : (ns : List ℕ) (vs row ws : List Val) (k : ℕ) (d : ℕ) (v : Val) (n : ℕ) → k < length ns → k < length vs → v ≡ get_or vs k v →
    n ≡ get_or ns k d → ws ≡ row ++ replicate n v →
    map pure_val row ++ each_repeated (drop k ns) (map pure_val (drop k vs)) ≡
    map pure_val ws ++ each_repeated (drop (k + 1) ns) (map pure_val (drop (k + 1) vs))
each_next ns vs row ws k d v n h i e m p =
    at_drop_more (λ l. map pure_val row ++ each_repeated l (map pure_val (drop k vs))) ns k d h
    ∙ at_drop_more (λ l. map pure_val row ++ each_repeated (get_or ns k d ∷ drop (k + 1) ns) (map pure_val l)) vs k v i
    ∙ ap (λ x. map pure_val row ++ (replicate ((get_or ns k d)) (pure_val x) ++ rest)) (sym e)
    ∙ ap (λ x. map pure_val row ++ (replicate x (pure_val v) ++ rest)) (sym m)
    ∙ behind ws row n v rest p
  where
    rest : List Value
    rest = each_repeated (drop (k + 1) ns) (map pure_val (drop (k + 1) vs))

with-none : {A : Type 0} (xs : List A) → xs ++ [] ≡ xs
with-none [] = refl
with-none (x ∷ xs) = ap (λ l. x ∷ l) (with-none xs)

-- No value is left.
pub each_short : (ns : List ℕ) (vs row : List Val) (k : ℕ) → length vs ≤ k →
    map pure_val row ++ each_repeated (drop k ns) (map pure_val (drop k vs)) ≡ map pure_val row
each_short ns vs row k h =
    ap (λ l. map pure_val row ++ each_repeated (drop k ns) (map pure_val l)) (drop_all k vs h)
    ∙ ap (λ l. map pure_val row ++ l) (none (drop k ns)) ∙ with-none (map pure_val row)
  where
    none : (ms : List ℕ) → each_repeated ms [] ≡ []
    none [] = refl
    none (m ∷ ms) = refl

-- ---- numbers above 0

-- Numbers that are 0 use no value.
pub used_repeated : (ns : List ℕ) (vs : List Value) → each_repeated (filter (λ n. nat_le 1 n) ns) vs ≡ repeated ns vs
used_repeated [] vs = refl
used_repeated (zero ∷ ns) vs = used_repeated ns vs
used_repeated (suc n ∷ ns) [] =
    let q : nat_le 1 (suc n) ≡ true = le-leb 1 (suc n) (omega arith) in
    ap (λ b. each_repeated (if b then suc n ∷ filter (λ n. nat_le 1 n) ns else filter (λ n. nat_le 1 n) ns) []) q
used_repeated (suc n ∷ ns) (v ∷ vs) =
    let q : nat_le 1 (suc n) ≡ true = le-leb 1 (suc n) (omega arith) in
    ap (λ b. each_repeated (if b then suc n ∷ filter (λ n. nat_le 1 n) ns else filter (λ n. nat_le 1 n) ns) (v ∷ vs)) q
    ∙ ap (λ l. replicate (suc n) v ++ l) (used_repeated ns vs)
