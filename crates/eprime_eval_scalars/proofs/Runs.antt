-- Ranges put together to runs: what they hold, and that they rise.
use Rattle.std.proofs.Common.{◌≡◌, refl, sym, ap, ◌∙◌, ℕ, zero, suc, ◌+◌, ◌<◌, Bool, true, false, ◌&&◌, ◌||◌, if◌then◌else◌, List, [], ◌∷◌, ◌++◌, append_assoc, append-nil, map, length, get_or, drop, ℤ, pos, negsuc, ◌+ℤ◌, Option, Some, None, IsTrue, int_le, arith}
use Rattle.std.proofs.lemmas.Int.{ints}
use Rattle.std.proofs.lemmas.List.{at_drop_more, map-append, map_push}
use Rattle.std.specs.List.{list_any}
use Rattle.ess_semantics.specs.Lists.{is_some_and, is_none_or}
use Rattle.ess_semantics.specs.Order.{same_int}
use Rattle.ess_semantics.specs.Domains.{Span, integers, booleans}
use Rattle.ess_semantics.specs.Membership.{in_span, in_spans}
use Rattle.ess_semantics.specs.Tables.{is_cell}
use Rattle.ess_semantics.specs.Satisfaction.{is_run, runs_rise, AreRuns}
use Rattle.ess_semantics.proofs.Tests.{and-left, and-right, and-both}
use Rattle.eprime_eval_scalars.specs.declared.running.Run.{Run}
use Rattle.eprime_eval_scalars.specs.Runs.{pure_run, is_left, merged, insert_run, runs_with}
use Rattle.eprime_eval_scalars.proofs.NumberPlaces.{not-same}
use Rattle.eprime_eval_scalars.proofs.Bounds.{le-true, le-false, in-merged, none-in, merged-run, left-merged, left-on}

-- ---- what they hold

or-swap : (a b c : Bool) → a || (b || c) ≡ b || (a || c)
or-swap true true c = refl
or-swap true false c = refl
or-swap false b c = refl

or-group : (a b c : Bool) → (a || b) || c ≡ a || (b || c)
or-group true b c = refl
or-group false b c = refl

in-inserted : (n : ℤ) (s : Span) (rs : List Span) → list_any (in_span n) (insert_run s rs) ≡ in_span n s || list_any (in_span n) rs
in-inserted n s [] = refl
in-inserted n s (r ∷ rs) = go (is_left r s) (is_left s r) refl refl (in-inserted n s rs) (in-inserted n (merged s r) rs)
  where
    go : (a b : Bool) → is_left r s ≡ a → is_left s r ≡ b → list_any (in_span n) (insert_run s rs) ≡ in_span n s || list_any (in_span n) rs
        → list_any (in_span n) (insert_run (merged s r) rs) ≡ in_span n (merged s r) || list_any (in_span n) rs
        → list_any (in_span n) (if a then r ∷ insert_run s rs else (if b then s ∷ r ∷ rs else insert_run (merged s r) rs))
        ≡ in_span n s || (in_span n r || list_any (in_span n) rs)
    go true b p q h k = ap (λ x. in_span n r || x) h ∙ or-swap (in_span n r) (in_span n s) (list_any (in_span n) rs)
    go false true p q h k = refl
    go false false p q h k =
        k ∙ ap (λ x. x || list_any (in_span n) rs) (in-merged n s r q p) ∙ or-group (in_span n s) (in_span n r) (list_any (in_span n) rs)

in-with : (n : ℤ) (rs ss : List Span) → list_any (in_span n) (runs_with rs ss) ≡ list_any (in_span n) rs || list_any (in_span n) ss
in-with n rs [] = go (list_any (in_span n) rs)
  where
    go : (b : Bool) → b ≡ b || false
    go true = refl
    go false = refl
in-with n rs (s ∷ ss) = go (is_run s) refl (λ ts. in-with n ts ss)
  where
    there : (a b c : Bool) → (a || b) || c ≡ b || (a || c)
    there true true c = refl
    there true false c = refl
    there false b c = refl

    go : (b : Bool) → is_run s ≡ b → ((ts : List Span) → list_any (in_span n) (runs_with ts ss) ≡ list_any (in_span n) ts || list_any (in_span n) ss)
        → list_any (in_span n) (runs_with (if b then insert_run s rs else rs) ss) ≡ list_any (in_span n) rs || (in_span n s || list_any (in_span n) ss)
    go true e f =
        f (insert_run s rs) ∙ ap (λ x. x || list_any (in_span n) ss) (in-inserted n s rs)
        ∙ there (in_span n s) (list_any (in_span n) rs) (list_any (in_span n) ss)
    go false e f = f rs ∙ ap (λ x. list_any (in_span n) rs || (x || list_any (in_span n) ss)) (sym (none-in n s e))

-- ---- that they rise

abbrev is_after : Span → List Span → Bool
is_after p [] = true
is_after p (r ∷ rs) = is_left p r

abbrev chain : List Span → Bool
chain [] = true
chain (r ∷ rs) = is_run r && (is_after r rs && chain rs)

chain-rises : (rs : List Span) → chain rs ≡ true → runs_rise rs ≡ true
chain-rises [] h = refl
chain-rises (r ∷ []) h = and-left (is_run r) (is_after r [] && chain []) h
chain-rises (r ∷ s ∷ rs) h =
    let a = and-left (is_run r) (is_left r s && chain (s ∷ rs)) h in
    let b = and-right (is_run r) (is_left r s && chain (s ∷ rs)) h in
    and-both _ _ (go r.low r.high s.low a (and-left (is_left r s) (chain (s ∷ rs)) b)) (chain-rises (s ∷ rs) (and-right (is_left r s) (chain (s ∷ rs)) b))
  where
    go : (l h m : Option ℤ) → is_none_or l (λ a. is_none_or h (λ b. int_le a b)) ≡ true → is_some_and h (λ b. is_some_and m (λ c. int_le (b +ℤ pos 2) c)) ≡ true
        → is_some_and h (λ b. is_none_or l (λ a. int_le a b) && is_some_and m (λ c. int_le (b +ℤ pos 2) c)) ≡ true
    go l None m p q = cc
    go None (Some b) m p q = q
    go (Some a) (Some b) m p q = and-both _ _ p q

after-more : (p r : Span) (rs : List Span) → is_run r ≡ true → is_left p r ≡ true → is_after r rs ≡ true → is_after p rs ≡ true
after-more p r [] k g h = refl
after-more p r (s ∷ rs) k g h = left-on p r s k g h

inserted-after : (p s : Span) (rs : List Span) → chain rs ≡ true → is_left p s ≡ true → is_after p rs ≡ true → is_after p (insert_run s rs) ≡ true
inserted-after p s [] c g h = g
inserted-after p s (r ∷ rs) c g h = go (is_left r s) (is_left s r) (λ d k m. inserted-after p (merged s r) rs d k m)
  where
    a : is_run r ≡ true
    a = and-left (is_run r) (is_after r rs && chain rs) c

    b : is_after r rs && chain rs ≡ true
    b = and-right (is_run r) (is_after r rs && chain rs) c

    go : (x y : Bool) → (chain rs ≡ true → is_left p (merged s r) ≡ true → is_after p rs ≡ true → is_after p (insert_run (merged s r) rs) ≡ true)
        → is_after p (if x then r ∷ insert_run s rs else (if y then s ∷ r ∷ rs else insert_run (merged s r) rs)) ≡ true
    go true y f = h
    go false true f = g
    go false false f =
        f (and-right (is_after r rs) (chain rs) b) (left-merged p s r g h)
        (after-more p r rs a h (and-left (is_after r rs) (chain rs) b))

inserted-chain : (s : Span) (rs : List Span) → is_run s ≡ true → chain rs ≡ true → chain (insert_run s rs) ≡ true
inserted-chain s [] k c = and-both _ _ k refl
inserted-chain s (r ∷ rs) k c = go (is_left r s) (is_left s r) refl refl (λ t m d. inserted-chain t rs m d)
  where
    a : is_run r ≡ true
    a = and-left (is_run r) (is_after r rs && chain rs) c

    b : is_after r rs && chain rs ≡ true
    b = and-right (is_run r) (is_after r rs && chain rs) c

    after : is_after r rs ≡ true
    after = and-left (is_after r rs) (chain rs) b

    rest : chain rs ≡ true
    rest = and-right (is_after r rs) (chain rs) b

    go : (x y : Bool) → is_left r s ≡ x → is_left s r ≡ y
        → ((t : Span) → is_run t ≡ true → chain rs ≡ true → chain (insert_run t rs) ≡ true)
        → chain (if x then r ∷ insert_run s rs else (if y then s ∷ r ∷ rs else insert_run (merged s r) rs)) ≡ true
    go true y p q f = and-both _ _ a (and-both _ _ (inserted-after r s rs rest p after) (f s k rest))
    go false true p q f = and-both _ _ k (and-both _ _ q c)
    go false false p q f = f (merged s r) (merged-run s r k) rest

with-chain : (rs ss : List Span) → chain rs ≡ true → chain (runs_with rs ss) ≡ true
with-chain rs [] h = h
with-chain rs (s ∷ ss) h = go (is_run s) refl (λ ts k. with-chain ts ss k)
  where
    go : (b : Bool) → is_run s ≡ b → ((ts : List Span) → chain ts ≡ true → chain (runs_with ts ss) ≡ true)
        → chain (runs_with (if b then insert_run s rs else rs) ss) ≡ true
    go true e f = f (insert_run s rs) (inserted-chain s rs e h)
    go false e f = f rs h

-- ---- what the calls answer

-- The ranges put together are the runs of what they hold.
pub runs_of_ranges : (rs ss : List Run) → 0 < length ss → map pure_run rs ≡ runs_with [] (map pure_run ss)
    → AreRuns (map pure_run rs) (integers (map pure_run ss))
runs_of_ranges rs [] l h = absurd (omega arith)
runs_of_ranges rs (s ∷ ss) l h =
    rw h (chain-rises (runs_with [] (map pure_run (s ∷ ss))) (with-chain [] (map pure_run (s ∷ ss)) refl), λ n. in-with n [] (map pure_run (s ∷ ss)))

-- All numbers are one run.
pub runs_of_all : (rs ss : List Run) (r : Run) → length ss ≡ 0 → r.from ≡ None → r.to ≡ None → rs ≡ [] ++ r ∷ []
    → AreRuns (map pure_run rs) (integers (map pure_run ss))
runs_of_all rs (s ∷ ss) r l p q e = absurd (omega arith)
runs_of_all rs [] r l p q e = rw (e, p, q) (refl, λ n. refl)

truth-run : (n : ℤ) → (int_le (pos 0) n && int_le n (pos 1)) || false ≡ same_int n (pos 0) || same_int n (pos 1)
truth-run (pos zero) = refl
truth-run (pos (suc zero)) = refl
truth-run (pos (suc (suc k))) =
    let a = not-same (pos (suc (suc k))) (pos 0) _ refl (λ e. omega (arith, ints, e)) in
    let b = not-same (pos (suc (suc k))) (pos 1) _ refl (λ e. omega (arith, ints, e)) in
    let c = le-false (pos (suc (suc k))) (pos 1) (omega (arith, ints)) in
    let d = le-true (pos 0) (pos (suc (suc k))) (omega (arith, ints)) in
    rw (a, b, c, d) refl
truth-run (negsuc k) =
    let a = not-same (negsuc k) (pos 0) _ refl (λ e. omega (arith, ints, e)) in
    let b = not-same (negsuc k) (pos 1) _ refl (λ e. omega (arith, ints, e)) in
    let c = le-false (pos 0) (negsuc k) (omega (arith, ints)) in
    rw (a, b, c) refl

-- 0 and 1 are one run.
pub runs_of_truths : (rs : List Run) (r : Run) → r.from ≡ Some (pos 0) → r.to ≡ Some (pos 1) → rs ≡ [] ++ r ∷ [] → AreRuns (map pure_run rs) booleans
runs_of_truths rs r p q e = rw (e, p, q) (refl, λ n. truth-run n)

-- ---- the loops

-- One more range.
pub ranges_more : (ss : List Run) (i : ℕ) (s : Run) (rs ts : List Run) (all : List Span) → i < length ss → s ≡ get_or ss i s
    → runs_with (map pure_run rs) (map pure_run (drop i ss)) ≡ all → is_run (pure_run s) ≡ true
    → map pure_run ts ≡ insert_run (pure_run s) (map pure_run rs)
    → runs_with (map pure_run ts) (map pure_run (drop (i + 1) ss)) ≡ all
ranges_more ss i s rs ts all l g h k e =
    ap (λ xs. runs_with xs (map pure_run (drop (i + 1) ss))) e
    ∙ ap (λ b. runs_with (if b then insert_run (pure_run s) (map pure_run rs) else map pure_run rs) (map pure_run (drop (i + 1) ss))) (sym k)
    ∙ ap (λ x. runs_with (map pure_run rs) (pure_run x ∷ map pure_run (drop (i + 1) ss))) g
    ∙ sym (at_drop_more (λ xs. runs_with (map pure_run rs) (map pure_run xs)) ss i s l) ∙ h

-- A range without members.
pub ranges_none : (ss : List Run) (i : ℕ) (s : Run) (rs : List Run) (all : List Span) → i < length ss → s ≡ get_or ss i s
    → runs_with (map pure_run rs) (map pure_run (drop i ss)) ≡ all → is_run (pure_run s) ≡ false
    → runs_with (map pure_run rs) (map pure_run (drop (i + 1) ss)) ≡ all
ranges_none ss i s rs all l g h k =
    ap (λ b. runs_with (if b then insert_run (pure_run s) (map pure_run rs) else map pure_run rs) (map pure_run (drop (i + 1) ss))) (sym k)
    ∙ ap (λ x. runs_with (map pure_run rs) (pure_run x ∷ map pure_run (drop (i + 1) ss))) g
    ∙ sym (at_drop_more (λ xs. runs_with (map pure_run rs) (map pure_run xs)) ss i s l) ∙ h

-- What is left to put behind the runs so far: those that are left, with the range where it isn't yet among the others.
abbrev pub left_over : Bool → Span → List Span → List Span
left_over true s rs = rs
left_over false s rs = insert_run s rs

push-on : (xs : List Run) (x : Run) (ys : List Span) → map pure_run (xs ++ x ∷ []) ++ ys ≡ map pure_run xs ++ pure_run x ∷ ys
push-on xs x ys = ap (λ zs. zs ++ ys) (map_push pure_run xs x) ∙ append_assoc (map pure_run xs) (pure_run x ∷ []) ys

-- A run behind the range.
pub put_placed : (rs : List Run) (i : ℕ) (r : Run) (p : Bool) (s : Span) (xs ys : List Run) (all : List Span) → i < length rs → r ≡ get_or rs i r
    → map pure_run xs ++ left_over p s (map pure_run (drop i rs)) ≡ all → p ≡ true → ys ≡ xs ++ r ∷ []
    → map pure_run ys ++ left_over p s (map pure_run (drop (i + 1) rs)) ≡ all
put_placed rs i r true s xs ys all l g h k e =
    ap (λ zs. map pure_run zs ++ map pure_run (drop (i + 1) rs)) e ∙ push-on xs r (map pure_run (drop (i + 1) rs))
    ∙ ap (λ x. map pure_run xs ++ pure_run x ∷ map pure_run (drop (i + 1) rs)) g
    ∙ sym (at_drop_more (λ zs. map pure_run xs ++ map pure_run zs) rs i r l) ∙ h
put_placed rs i r false s xs ys all l g h k e = cc

one-left : (xs : List Run) (r s : Span) (rs : List Span) (a b : Bool) → is_left r s ≡ a → is_left s r ≡ b
    → map pure_run xs ++ insert_run s (r ∷ rs) ≡ map pure_run xs ++ (if a then r ∷ insert_run s rs else (if b then s ∷ r ∷ rs else insert_run (merged s r) rs))
one-left xs r s rs a b p q = rw (p, q) refl

-- A run before the range.
pub put_before : (rs : List Run) (i : ℕ) (r : Run) (p : Bool) (s : Span) (xs ys : List Run) (all : List Span) → i < length rs → r ≡ get_or rs i r
    → map pure_run xs ++ left_over p s (map pure_run (drop i rs)) ≡ all → p ≡ false → is_left (pure_run r) s ≡ true → ys ≡ xs ++ r ∷ []
    → map pure_run ys ++ left_over p s (map pure_run (drop (i + 1) rs)) ≡ all
put_before rs i r false s xs ys all l g h k m e =
    ap (λ zs. map pure_run zs ++ insert_run s (map pure_run (drop (i + 1) rs))) e ∙ push-on xs r (insert_run s (map pure_run (drop (i + 1) rs)))
    ∙ sym (one-left xs (pure_run r) s (map pure_run (drop (i + 1) rs)) true (is_left s (pure_run r)) m refl)
    ∙ ap (λ x. map pure_run xs ++ insert_run s (pure_run x ∷ map pure_run (drop (i + 1) rs))) g
    ∙ sym (at_drop_more (λ zs. map pure_run xs ++ insert_run s (map pure_run zs)) rs i r l) ∙ h
put_before rs i r true s xs ys all l g h k m e = cc

-- The range, and a run behind it.
pub put_here : (rs : List Run) (i : ℕ) (r : Run) (p q : Bool) (s t : Run) (xs ys zs : List Run) (all : List Span) → i < length rs → r ≡ get_or rs i r
    → map pure_run xs ++ left_over p (pure_run s) (map pure_run (drop i rs)) ≡ all → p ≡ false → is_left (pure_run r) (pure_run s) ≡ false
    → is_left (pure_run s) (pure_run r) ≡ true → ys ≡ xs ++ s ∷ [] → zs ≡ ys ++ r ∷ [] → q ≡ true
    → map pure_run zs ++ left_over q (pure_run t) (map pure_run (drop (i + 1) rs)) ≡ all
put_here rs i r false true s t xs ys zs all l g h k m n e f z =
    let rest : List Span = map pure_run (drop (i + 1) rs) in
    ap (λ us. map pure_run us ++ rest) f ∙ push-on ys r rest ∙ ap (λ us. map pure_run us ++ pure_run r ∷ rest) e ∙ push-on xs s (pure_run r ∷ rest)
    ∙ sym (one-left xs (pure_run r) (pure_run s) rest false true m n)
    ∙ ap (λ x. map pure_run xs ++ insert_run (pure_run s) (pure_run x ∷ rest)) g
    ∙ sym (at_drop_more (λ us. map pure_run xs ++ insert_run (pure_run s) (map pure_run us)) rs i r l) ∙ h
put_here rs i r true q s t xs ys zs all l g h k m n e f z = cc
put_here rs i r false false s t xs ys zs all l g h k m n e f z = cc

-- The range and a run together.
pub put_together_more : (rs : List Run) (i : ℕ) (r : Run) (p : Bool) (s t : Run) (xs : List Run) (all : List Span) → i < length rs → r ≡ get_or rs i r
    → map pure_run xs ++ left_over p (pure_run s) (map pure_run (drop i rs)) ≡ all → p ≡ false → is_left (pure_run r) (pure_run s) ≡ false
    → is_left (pure_run s) (pure_run r) ≡ false → pure_run t ≡ merged (pure_run s) (pure_run r)
    → map pure_run xs ++ left_over p (pure_run t) (map pure_run (drop (i + 1) rs)) ≡ all
put_together_more rs i r false s t xs all l g h k m n e =
    let rest : List Span = map pure_run (drop (i + 1) rs) in
    ap (λ x. map pure_run xs ++ insert_run x rest) e
    ∙ sym (one-left xs (pure_run r) (pure_run s) rest false false m n)
    ∙ ap (λ x. map pure_run xs ++ insert_run (pure_run s) (pure_run x ∷ rest)) g
    ∙ sym (at_drop_more (λ us. map pure_run xs ++ insert_run (pure_run s) (map pure_run us)) rs i r l) ∙ h
put_together_more rs i r true s t xs all l g h k m n e = cc

pub ruleset insertions = (put_placed, put_before, put_here, put_together_more, map_push)

pub ruleset ranges = (ranges_more, ranges_none)

-- Some of one range or more holds the number.
pub in_some : (n : ℤ) (rs : List Run) (b : Bool) → (length rs ≡ 0 → ⊥) → b ≡ list_any (in_span n) (map pure_run rs) → b ≡ in_spans (map pure_run rs) n
in_some n [] b h e = absurd (h refl)
in_some n (r ∷ rs) b h e = e

pub all_in : (n : ℤ) (rs : List Run) → length rs ≡ 0 → true ≡ in_spans (map pure_run rs) n
all_in n [] h = refl
all_in n (r ∷ rs) h = absurd (omega arith)

pub ruleset within = (in_some, all_in)
