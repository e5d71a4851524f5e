-- The numbers of an index domain's ranges, each of literals and each with no more numbers than the matrix has items.
use Rattle.std.proofs.Common.{◌≡◌, refl, sym, ap, ◌∙◌, subst, ℕ, suc, ◌+◌, ◌<◌, Bool, true, false, ◌&&◌, if◌then◌else◌, eqb, List, [], ◌∷◌, ◌++◌, length, map, Option, Some, None, option_map, nat_eq, ℤ, arith}
use Rattle.std.specs.Prelude.{nat_le, is_some, ◌≢◌}
use Rattle.std.specs.List.{list_all}
use Rattle.std.proofs.lemmas.Bool.Decides.{nat_tests}
use Rattle.std.proofs.lemmas.List.{length-map}
use Rattle.std.proofs.lemmas.Bool.{false≢true}
use Rattle.ess_semantics.specs.Lists.{and_then, when, all_some, append_all}
use Rattle.ess_semantics.specs.Values.{Value}
use Rattle.ess_semantics.specs.Collections.{sorted_once}
use Rattle.ess_semantics.specs.Types.{Ty, int_ty}
use Rattle.ess_semantics.specs.Trees as pure
use Rattle.ess_semantics.specs.Trees.{Ends, one_value, both_ends, index}
use Rattle.ess_semantics.specs.Domains.{Span, integers, interval, span_members, int_members}
use Rattle.ess_semantics.specs.Meaning.{Env, meaning, meanings, members_in, spans_of, with_span, as_int}
use Rattle.ess_semantics.specs.Literals.{is_number_literal, are_number_literals, is_one_or_both}
use Rattle.ess_core.specs.declared.domains.Dom.{Dom}
use Rattle.ess_core.specs.declared.domains.FieldDom.{FieldDom}
use Rattle.ess_core.specs.declared.domains.Range.{Range}
use Rattle.ess_core.specs.declared.domains.Attr.{Attr}
use Rattle.ess_core.specs.declared.expressions.Ex.{Ex}
use Rattle.ess_core.specs.declared.expressions.Step.{Step}
use Rattle.ess_core.specs.declared.expressions.FieldEx.{FieldEx}
use Rattle.ess_core.specs.declared.expressions.PairEx.{PairEx}
use Rattle.ess_core.specs.declared.expressions.Gen.{Gen}
use Rattle.ess_core.specs.declared.expressions.View.{View}
use Rattle.ess_core.specs.declared.domains.Dom.TheOpen.{Range-F}
use Rattle.ess_core.specs.declared.domains.Dom.TheViews.{out-Range, roll-Range, roll-out-Range}
use Rattle.ess_core.specs.declared.domains.Range.TheVariants as range
use Rattle.ess_core.specs.TreeViews.{With, words_of, within, exs_of, span, pure_ex, pure_range}
use Rattle.ess_core.specs.ValueViews.{pure_val}
use Rattle.ess_core.specs.declared.values.Val.{Val}
use Rattle.ess_core.proofs.PartEquations.{pure_range_one, pure_range_span}
use Rattle.ess_values.specs.TypedLiterals.{both, literal_number, index_of}
use Rattle.ess_values.specs.Ranges.{literal_interval, numbers_of}
use Rattle.ess_values.specs.Literals.{pure_int_dom, pure_index}
use Rattle.ess_values.specs.declared.shapes.Shape.TheVariants as shapes
use Rattle.ess_values.proofs.ShapeEquations.{shape_int}
use Rattle.ess_values.proofs.IndexLemmas.{same_count, other_count}
use Rattle.ess_values.proofs.NumberLiterals.{means, number_tests}
use Rattle.ess_values.proofs.LongerLists.{rest_longer, interval_longer}

-- ---- ranges case by case

module _ (P : With Ends → Type 0) (one : (x : Ex) → P (one_value, pure_ex x ∷ [])) (spanned : (a b : Option Ex) → P (span (option_map pure_ex a) (option_map pure_ex b))) where
  range_at : (l : Range-F Dom Range Ex Gen Step Attr FieldDom FieldEx PairEx View) → P (pure_range (roll-Range l))
  range_at (Range-F.Range::One e) = subst (λ r. P (pure_range r)) (sym (range.rolls-One e)) (subst P (sym (pure_range_one e)) (one e))
  range_at (Range-F.Span a b) = subst (λ r. P (pure_range r)) (sym (range.rolls-Span a b)) (subst P (sym (pure_range_span a b)) (spanned a b))

  range_cases : (r : Range) → P (pure_range r)
  range_cases r = subst (λ q. P (pure_range q)) (roll-out-Range r) (range_at (out-Range r))

-- ---- whether all ranges are ones of literals

abbrev good : With Ends → Bool
good w = is_one_or_both w.0 && are_number_literals (exs_of w.1)

abbrev all_good : List (With Ends) → Bool
all_good [] = true
all_good (w ∷ ws) = good w && all_good ws

literals_append : (es fs : List pure.Ex) → are_number_literals (exs_of (es ++ fs)) ≡ are_number_literals (exs_of es) && are_number_literals (exs_of fs)
literals_append [] fs = refl
literals_append (e ∷ es) fs = ap (λ b. is_number_literal e && b) (literals_append es fs) ∙ assoc (is_number_literal e) (are_number_literals (exs_of es)) (are_number_literals (exs_of fs))
  where
    assoc : (a b c : Bool) → a && (b && c) ≡ (a && b) && c
    assoc true b c = refl
    assoc false b c = refl

all_good_is : (ws : List (With Ends)) → list_all is_one_or_both (words_of ws) && are_number_literals (exs_of (within ws)) ≡ all_good ws
all_good_is [] = refl
all_good_is (w ∷ ws) =
    ap (λ b. (is_one_or_both w.0 && list_all is_one_or_both (words_of ws)) && b) (literals_append w.1 (within ws))
    ∙ mixed (is_one_or_both w.0) (list_all is_one_or_both (words_of ws)) (are_number_literals (exs_of w.1)) (are_number_literals (exs_of (within ws)))
    ∙ ap (λ b. good w && b) (all_good_is ws)
  where
    mixed : (a b c d : Bool) → (a && b) && (c && d) ≡ (a && c) && (b && d)
    mixed true true true d = refl
    mixed true true false d = refl
    mixed true false true d = refl
    mixed true false false d = refl
    mixed false b c d = refl

both_there : {A B : Type 0} (o : Option A) (p : Option B) → is_some o && (is_some p && true) ≡ is_some (both o p)
both_there None p = refl
both_there (Some x) None = refl
both_there (Some x) (Some y) = refl

one_there : (o : Option ℤ) → is_some o && true ≡ is_some (option_map {U = ℤ × ℤ} (λ n. (n, n)) o)
one_there None = refl
one_there (Some n) = refl

range_good : (r : Range) → good (pure_range r) ≡ is_some (literal_interval (pure_range r))
range_good = range_cases (λ w. good w ≡ is_some (literal_interval w)) (λ x. ap (λ b. b && true) (number_tests (pure_ex x)) ∙ one_there (literal_number (pure_ex x))) spanned
  where
    spanned : (a b : Option Ex) → good (span (option_map pure_ex a) (option_map pure_ex b)) ≡ is_some (literal_interval (span (option_map pure_ex a) (option_map pure_ex b)))
    spanned None None = refl
    spanned None (Some y) = refl
    spanned (Some x) None = refl
    spanned (Some x) (Some y) =
        ap (λ b. b && (is_number_literal (pure_ex y) && true)) (number_tests (pure_ex x)) ∙ ap (λ b. is_some (literal_number (pure_ex x)) && (b && true)) (number_tests (pure_ex y))
        ∙ both_there (literal_number (pure_ex x)) (literal_number (pure_ex y))

-- The numbers of ranges of literals one behind the other.
abbrev all_numbers : List (With Ends) → Option (List Value)
all_numbers [] = Some []
all_numbers (w ∷ ws) = and_then (literal_interval w) (λ i. option_map (λ more. interval i.0 i.1 ++ more) (all_numbers ws))

ranges_good : (rs : List Range) → all_good (map pure_range rs) ≡ is_some (all_numbers (map pure_range rs))
ranges_good [] = refl
ranges_good (r ∷ rs) =
    ap (λ b. b && all_good (map pure_range rs)) (range_good r) ∙ ap (λ b. is_some (literal_interval (pure_range r)) && b) (ranges_good rs)
    ∙ go (literal_interval (pure_range r)) (all_numbers (map pure_range rs))
  where
    go : (o : Option (ℤ × ℤ)) (p : Option (List Value)) → is_some o && is_some p ≡ is_some (and_then o (λ i. option_map (λ more. interval i.0 i.1 ++ more) p))
    go None p = refl
    go (Some i) None = refl
    go (Some i) (Some ys) = refl

-- ---- what the ranges denote

record ReadsAs (ws : List (With Ends)) (env : Env) (xs : List Value) : Type 0 where
  spans : List Span
  lists : List (List Value)
  read : spans_of (words_of ws) (meanings (exs_of (within ws)) env) ≡ Some spans
  listed : all_some (map span_members spans) ≡ Some lists
  whole : append_all lists ≡ xs
  count : length spans ≡ length ws

range_read : (w : With Ends) (ws : List (With Ends)) (env : Env) (a b : ℤ) (ys xs : List Value) → spans_of (words_of (w ∷ ws)) (meanings (exs_of (within (w ∷ ws))) env) ≡ with_span (Some a) (Some b) (spans_of (words_of ws) (meanings (exs_of (within ws)) env))
    → ReadsAs ws env ys → Some (interval a b ++ ys) ≡ Some xs → ReadsAs (w ∷ ws) env xs
range_read w ws env a b ys xs e r q = record {
  spans = record { low = Some a; high = Some b } ∷ r.spans;
  lists = interval a b ∷ r.lists;
  read = e ∙ ap (with_span (Some a) (Some b)) r.read;
  listed = ap (option_map (λ ls. interval a b ∷ ls)) r.listed;
  whole = let z : interval a b ++ ys ≡ xs = cc in ap (λ l. interval a b ++ l) r.whole ∙ z;
  count = ap suc r.count;
}

-- Each range can be read before others.
abbrev Reads : Env → With Ends → Type 0
Reads env w = (ws : List (With Ends)) (xs : List Value) → all_numbers (w ∷ ws) ≡ Some xs → ((ys : List Value) → all_numbers ws ≡ Some ys → ReadsAs ws env ys) → ReadsAs (w ∷ ws) env xs

one_reads : (x : Ex) (env : Env) → Reads env (one_value, pure_ex x ∷ [])
one_reads x env ws xs e f = go (literal_number (pure_ex x)) (all_numbers ws) refl refl e
  where
    go : (o : Option ℤ) (p : Option (List Value)) → literal_number (pure_ex x) ≡ o → all_numbers ws ≡ p
        → and_then (option_map {U = ℤ × ℤ} (λ n. (n, n)) o) (λ i. option_map (λ more. interval i.0 i.1 ++ more) p) ≡ Some xs → ReadsAs ((one_value, pure_ex x ∷ []) ∷ ws) env xs
    go None p c d e = absurd cc
    go (Some n) None c d e = absurd cc
    go (Some n) (Some ys) c d e =
        range_read (one_value, pure_ex x ∷ []) ws env n n ys xs
        (ap (λ o. and_then (as_int o) (λ n. with_span (Some n) (Some n) (spans_of (words_of ws) (meanings (exs_of (within ws)) env)))) ((means x).meant n env c)) (f ys d) e

both_reads : (x y : Ex) (env : Env) → Reads env (both_ends, pure_ex x ∷ pure_ex y ∷ [])
both_reads x y env ws xs e f = go (literal_number (pure_ex x)) (literal_number (pure_ex y)) (all_numbers ws) refl refl refl e
  where
    go : (o q : Option ℤ) (p : Option (List Value)) → literal_number (pure_ex x) ≡ o → literal_number (pure_ex y) ≡ q → all_numbers ws ≡ p
        → and_then (both o q) (λ i. option_map (λ more. interval i.0 i.1 ++ more) p) ≡ Some xs → ReadsAs ((both_ends, pure_ex x ∷ pure_ex y ∷ []) ∷ ws) env xs
    go None q p c b d e = absurd cc
    go (Some n) None p c b d e = absurd cc
    go (Some n) (Some m) None c b d e = absurd cc
    go (Some n) (Some m) (Some ys) c b d e =
        range_read (both_ends, pure_ex x ∷ pure_ex y ∷ []) ws env n m ys xs
        (ap (λ o. and_then (as_int o) (λ n. and_then (as_int (meaning (pure_ex y) env)) (λ m. with_span (Some n) (Some m) (spans_of (words_of ws) (meanings (exs_of (within ws)) env))))) ((means x).meant n env c)
        ∙ ap (λ o. and_then (as_int o) (λ m. with_span (Some n) (Some m) (spans_of (words_of ws) (meanings (exs_of (within ws)) env)))) ((means y).meant m env b)) (f ys d) e

range_reads : (env : Env) (r : Range) → Reads env (pure_range r)
range_reads env = range_cases (Reads env) (λ x. one_reads x env) spanned
  where
    spanned : (a b : Option Ex) → Reads env (span (option_map pure_ex a) (option_map pure_ex b))
    spanned None None ws xs e f = absurd cc
    spanned None (Some y) ws xs e f = absurd cc
    spanned (Some x) None ws xs e f = absurd cc
    spanned (Some x) (Some y) ws xs e f = both_reads x y env ws xs e f

ranges_read : (rs : List Range) (env : Env) (xs : List Value) → all_numbers (map pure_range rs) ≡ Some xs → ReadsAs (map pure_range rs) env xs
ranges_read [] env xs e = record { spans = []; lists = []; read = refl; listed = refl; whole = cc; count = refl }
ranges_read (r ∷ rs) env xs e = range_reads env r (map pure_range rs) xs e (λ ys d. ranges_read rs env ys d)

-- ---- an int domain as an index

-- The type and the members of an int domain with these members, where they are so many.
abbrev pub int_index : List Value → ℕ → Option (Ty × List Value)
int_index vs n = when (nat_eq (length vs) n) (int_ty, vs)

members_read : (ss : List Span) (ls : List (List Value)) → 0 < length ss → all_some (map span_members ss) ≡ Some ls → int_members ss ≡ Some (sorted_once (append_all ls))
members_read [] ls h e = absurd (omega arith)
members_read (s ∷ ss) ls h e = ap (option_map (λ l. sorted_once (append_all l))) e

index_read : (r : Range) (rs : List Range) (n : ℕ) (env : Env) (xs : List Value) → all_numbers (map pure_range (r ∷ rs)) ≡ Some xs → index_of (pure_int_dom (r ∷ rs)) n env ≡ int_index (sorted_once xs) n
index_read r rs n env xs e =
    let ws = map pure_range (r ∷ rs) in
    let a = ranges_read (r ∷ rs) env xs e in
    let many : 0 < length a.spans = let c : length a.spans ≡ suc (length (map pure_range rs)) = a.count in omega (arith, c) in
    ap (λ b. if b then and_then {B = Ty × List Value} (members_in (option_map integers (spans_of (words_of ws) (meanings (exs_of (within ws)) env)))) (λ is. int_index is n) else None)
    (all_good_is ws ∙ ranges_good (r ∷ rs) ∙ ap is_some e)
    ∙ ap (λ o. and_then {B = Ty × List Value} (members_in (option_map integers o)) (λ is. int_index is n)) a.read
    ∙ ap (λ o. and_then {B = Ty × List Value} o (λ is. int_index is n)) (members_read a.spans a.lists many a.listed)
    ∙ ap (λ l. int_index (sorted_once l) n) a.whole

index_bad : (r : Range) (rs : List Range) (n : ℕ) (env : Env) → all_numbers (map pure_range (r ∷ rs)) ≡ None → index_of (pure_int_dom (r ∷ rs)) n env ≡ None
index_bad r rs n env e =
    let ws = map pure_range (r ∷ rs) in
    ap (λ b. if b then and_then {B = Ty × List Value} (members_in (option_map integers (spans_of (words_of ws) (meanings (exs_of (within ws)) env)))) (λ is. int_index is n) else None)
    (all_good_is ws ∙ ranges_good (r ∷ rs) ∙ ap is_some e)

-- ---- a range with more numbers than there may be

too_many : (ws : List (With Ends)) (n : ℕ) (xs : List Value) → numbers_of n ws ≡ None → all_numbers ws ≡ Some xs → n < length (sorted_once xs)
too_many [] n xs e d = absurd cc
too_many (w ∷ ws) n xs e d = go (literal_interval w) (all_numbers ws) (λ ys. too_many ws n ys) refl e d
  where
    go : (o : Option (ℤ × ℤ)) (p : Option (List Value)) → ((ys : List Value) → numbers_of n ws ≡ None → all_numbers ws ≡ Some ys → n < length (sorted_once ys)) → all_numbers ws ≡ p
        → and_then o (λ i. if nat_le (length (interval i.0 i.1)) n then option_map (λ more. interval i.0 i.1 ++ more) (numbers_of n ws) else None) ≡ None
        → and_then o (λ i. option_map (λ more. interval i.0 i.1 ++ more) p) ≡ Some xs → n < length (sorted_once xs)
    go None p f c e d = absurd cc
    go (Some i) None f c e d = absurd cc
    go (Some i) (Some ys) f c e d = fits (nat_le (length (interval i.0 i.1)) n) refl e
      where
        none : (o : Option (List Value)) → option_map (λ more. interval i.0 i.1 ++ more) o ≡ None → o ≡ None
        none None e = refl
        none (Some zs) e = cc

        is : interval i.0 i.1 ++ ys ≡ xs
        is = cc

        fits : (b : Bool) → nat_le (length (interval i.0 i.1)) n ≡ b → (if b then option_map (λ more. interval i.0 i.1 ++ more) (numbers_of n ws) else None) ≡ None → n < length (sorted_once xs)
        fits true h e = let k = f ys (none (numbers_of n ws) e) c in let l = rest_longer (interval i.0 i.1) ys in let s = ap (λ z. length (sorted_once z)) is in omega (arith, k, l, s)
        fits false h e = let l = interval_longer i.0 i.1 ys in let s = ap (λ z. length (sorted_once z)) is in let k : n < length (interval i.0 i.1) = grind (arith, nat_tests) in omega (arith, k, l, s)

within_all : (ws : List (With Ends)) (n : ℕ) (xs : List Value) → numbers_of n ws ≡ Some xs → all_numbers ws ≡ Some xs
within_all [] n xs e = e
within_all (w ∷ ws) n xs e = go (literal_interval w) (λ ys. within_all ws n ys) e
  where
    more : (i : ℤ × ℤ) (o : Option (List Value)) → ((ys : List Value) → o ≡ Some ys → all_numbers ws ≡ Some ys) → option_map (λ m. interval i.0 i.1 ++ m) o ≡ Some xs → option_map (λ m. interval i.0 i.1 ++ m) (all_numbers ws) ≡ Some xs
    more i None f e = absurd cc
    more i (Some ys) f e = ap (option_map (λ m. interval i.0 i.1 ++ m)) (f ys refl) ∙ e

    fits : (i : ℤ × ℤ) (b : Bool) → ((ys : List Value) → numbers_of n ws ≡ Some ys → all_numbers ws ≡ Some ys) → (if b then option_map (λ m. interval i.0 i.1 ++ m) (numbers_of n ws) else None) ≡ Some xs
        → option_map (λ m. interval i.0 i.1 ++ m) (all_numbers ws) ≡ Some xs
    fits i true f e = more i (numbers_of n ws) f e
    fits i false f e = absurd cc

    go : (o : Option (ℤ × ℤ)) → ((ys : List Value) → numbers_of n ws ≡ Some ys → all_numbers ws ≡ Some ys)
        → and_then o (λ i. if nat_le (length (interval i.0 i.1)) n then option_map (λ m. interval i.0 i.1 ++ m) (numbers_of n ws) else None) ≡ Some xs
        → and_then o (λ i. option_map (λ m. interval i.0 i.1 ++ m) (all_numbers ws)) ≡ Some xs
    go None f e = absurd cc
    go (Some i) f e = fits i (nat_le (length (interval i.0 i.1)) n) f e

-- ---- the index of ranges

pub no_ranges : (rs : List Range) (n : ℕ) (env : Env) → rs ≡ [] → index_of (pure_int_dom rs) n env ≡ None
no_ranges rs n env e = ap (λ l. index_of (pure_int_dom l) n env) e

counted : (n : ℕ) (vs : List Value) → n < length vs → int_index vs n ≡ None
counted n vs h = let d : nat_eq (length vs) n ≡ false = grind (arith, nat_tests) in ap (λ b. when {A = Ty × List Value} b (int_ty, vs)) d

pub no_index : (rs : List Range) (n : ℕ) (env : Env) → numbers_of n (map pure_range rs) ≡ None → index_of (pure_int_dom rs) n env ≡ None
no_index [] n env e = refl
no_index (r ∷ rs) n env e = go (all_numbers (map pure_range (r ∷ rs))) refl
  where
    go : (o : Option (List Value)) → all_numbers (map pure_range (r ∷ rs)) ≡ o → index_of (pure_int_dom (r ∷ rs)) n env ≡ None
    go None d = index_bad r rs n env d
    go (Some xs) d = index_read r rs n env xs d ∙ counted n (sorted_once xs) (too_many (map pure_range (r ∷ rs)) n xs e d)

pub index_there : (rs : List Range) (n : ℕ) (env : Env) (xs : List Value) → 0 < length rs → numbers_of n (map pure_range rs) ≡ Some xs → index_of (pure_int_dom rs) n env ≡ int_index (sorted_once xs) n
index_there [] n env xs h e = absurd (omega arith)
index_there (r ∷ rs) n env xs h e = index_read r rs n env xs (within_all (map pure_range (r ∷ rs)) n xs e)

no_longer_empty : (rs : List Range) → eqb (length rs) 0 ≡ false → 0 < length rs
no_longer_empty [] h = absurd (false≢true (sym h))
no_longer_empty (r ∷ rs) h = omega arith

pub numbers_other : (rs : List Range) (n : ℕ) (found ms : List Val) → eqb (length rs) 0 ≡ false → numbers_of n (map pure_range rs) ≡ Some (map pure_val found) → map pure_val ms ≡ sorted_once (map pure_val found) → length ms ≢ n
    → (env : Env) → None ≡ index_of (pure_int_dom rs) n env
numbers_other rs n found ms h e m c env =
    let l : length (sorted_once (map pure_val found)) ≡ length ms = ap length (sym m) ∙ length-map ms pure_val in
    let d : nat_eq (length (sorted_once (map pure_val found))) n ≡ false = ap (λ k. nat_eq k n) l ∙ other_count (length ms) n c in
    sym (index_there rs n env (map pure_val found) (no_longer_empty rs h) e ∙ ap (λ b. when {A = Ty × List Value} b (int_ty, sorted_once (map pure_val found))) d)

pub numbers_fit : (rs : List Range) (n : ℕ) (found ms : List Val) → eqb (length rs) 0 ≡ false → numbers_of n (map pure_range rs) ≡ Some (map pure_val found) → map pure_val ms ≡ sorted_once (map pure_val found) → length ms ≡ n
    → (env : Env) → Some (pure_index record { shape = shapes.Int; members = ms }) ≡ index_of (pure_int_dom rs) n env
numbers_fit rs n found ms h e m c env =
    let l : length (sorted_once (map pure_val found)) ≡ length ms = ap length (sym m) ∙ length-map ms pure_val in
    let d : nat_eq (length (sorted_once (map pure_val found))) n ≡ true = ap (λ k. nat_eq k n) l ∙ same_count (length ms) n c in
    ap (λ t. Some (t, map pure_val ms)) shape_int ∙ ap (λ vs. Some (int_ty, vs)) m
    ∙ sym (index_there rs n env (map pure_val found) (no_longer_empty rs h) e ∙ ap (λ b. when {A = Ty × List Value} b (int_ty, sorted_once (map pure_val found))) d)
