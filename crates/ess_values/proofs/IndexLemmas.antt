-- The members of index domains: the values of a named type, and the numbers of ranges.
use Rattle.std.proofs.Common.{◌≡◌, refl, sym, ap, ◌∙◌, ℕ, zero, suc, ◌+◌, ◌<◌, ◌≤◌, Bool, true, false, List, [], ◌∷◌, ◌++◌, length, map, Some, None, nat_eq, pos, ℤ, ◌+ℤ◌, ◌-ℤ◌, ◌≤ℤ◌, arith}
use Rattle.std.specs.Prelude.{nat_le, ◌≢◌}
use lib.IntN.{negsuc}
use lib.Signed.{◌<ℤ◌}
use Rattle.std.specs.Int.RustNames.{unsigned_abs}
use Rattle.std.proofs.lemmas.Int.{ints}
use Rattle.std.proofs.lemmas.Bool.Decides.{nat_tests}
use Rattle.ess_semantics.specs.Lists.{and_then, when}
use Rattle.ess_semantics.specs.Values.{Text, Value, number, item}
use Rattle.ess_semantics.specs.Types.{Ty, named_ty}
use Rattle.ess_semantics.specs.Trees.{name_dom}
use Rattle.ess_semantics.specs.Numbers.{natural}
use Rattle.ess_semantics.specs.Domains.{numbers_up, interval, items_from}
use Rattle.ess_semantics.specs.Meaning.{type_entry, members_in, named_domain}
use Rattle.std.proofs.lemmas.List.{map_push, append_assoc}
use Rattle.ess_core.specs.ValueViews.{pure_val}
use Rattle.ess_core.specs.declared.values.Val.{Val}
use Rattle.ess_core.specs.declared.values.Val.TheVariants as variant
use Rattle.ess_core.proofs.ValueEquations.{pure_item, pure_num}
use Rattle.ess_core.specs.TableViews.{pure_type_entry, pure_type_entries, pure_env}
use Rattle.ess_core.specs.declared.tables.TypeEntry.{TypeEntry}
use Rattle.ess_core.specs.declared.tables.Env.{Env}
use Rattle.ess_values.specs.TypedLiterals.{index_of}

-- ---- the values of a named type

items_push : (t : Text) (j k : ℕ) → items_from t j (suc k) ≡ items_from t j k ++ item t (j + k) ∷ []
items_push t j zero = ap (λ n. item t n ∷ []) (omega arith)
items_push t j (suc k) = ap (λ l. item t j ∷ l) (items_push t (suc j) k) ∙ ap (λ n. item t j ∷ (items_from t (suc j) k ++ item t n ∷ [])) (omega arith)

pub one_more_item : (t : Text) (k : ℕ) → items_from t 1 (k + 1) ≡ items_from t 1 k ++ item t (k + 1) ∷ []
one_more_item t k = let next : k + 1 ≡ suc k = omega arith in ap (items_from t 1) next ∙ items_push t 1 k ∙ ap (λ n. items_from t 1 k ++ item t n ∷ []) (omega arith)

pub items_step : (t : Text) (k : ℕ) (old new : List Val) (a : Text) (j : ℕ) → map pure_val old ≡ items_from t 1 k → new ≡ old ++ variant.Item a j ∷ [] → a ≡ t → j ≡ k + 1 → map pure_val new ≡ items_from t 1 (k + 1)
items_step t k old new a j so_far e p q =
    ap (map pure_val) e ∙ map_push pure_val old (variant.Item a j) ∙ ap (λ l. l ++ pure_val (variant.Item a j) ∷ []) so_far
    ∙ ap (λ v. items_from t 1 k ++ v ∷ []) (pure_item a j ∙ ap (λ b. item b j) p ∙ ap (item t) q) ∙ sym (one_more_item t k)

items_length : (t : Text) (j k : ℕ) → length (items_from t j k) ≡ k
items_length t j zero = refl
items_length t j (suc k) = ap suc (items_length t (suc j) k)

pub same_count : (m n : ℕ) → m ≡ n → nat_eq m n ≡ true
same_count m n h = grind (arith, nat_tests)

pub other_count : (m n : ℕ) → m ≢ n → nat_eq m n ≡ false
other_count m n h = grind (arith, nat_tests)

named_index_of : (e : Env) (a : Text) (n : ℕ) (t : TypeEntry) (b : Bool) → type_entry (pure_type_entries e.types) a ≡ Some (pure_type_entry t) → nat_eq t.count n ≡ b
    → index_of (name_dom a) n (pure_env e) ≡ when b (named_ty a, items_from a 1 t.count)
named_index_of e a n t b f c =
    ap (λ o. and_then {B = Ty × List Value} (members_in (named_domain false a o)) (λ is. when (nat_eq (length is) n) (named_ty a, is))) f
    ∙ ap (λ k. when {A = Ty × List Value} (nat_eq k n) (named_ty a, items_from a 1 t.count)) (items_length a 1 t.count)
    ∙ ap (λ x. when {A = Ty × List Value} x (named_ty a, items_from a 1 t.count)) c

pub named_found : (e : Env) (a : Text) (n : ℕ) (t : TypeEntry) → type_entry (pure_type_entries e.types) a ≡ Some (pure_type_entry t) → t.count ≡ n
    → index_of (name_dom a) n (pure_env e) ≡ Some (named_ty a, items_from a 1 n)
named_found e a n t f c = named_index_of e a n t true f (same_count t.count n c) ∙ ap (λ k. Some (named_ty a, items_from a 1 k)) c

pub named_other : (e : Env) (a : Text) (n : ℕ) (t : TypeEntry) → type_entry (pure_type_entries e.types) a ≡ Some (pure_type_entry t) → t.count ≢ n → index_of (name_dom a) n (pure_env e) ≡ None
named_other e a n t f c = named_index_of e a n t false f (other_count t.count n c)

pub named_none : (e : Env) (a : Text) (n : ℕ) → type_entry (pure_type_entries e.types) a ≡ None → index_of (name_dom a) n (pure_env e) ≡ None
named_none e a n f = ap (λ o. and_then {B = Ty × List Value} (members_in (named_domain false a o)) (λ is. when (nat_eq (length is) n) (named_ty a, is))) f

-- ---- how many numbers an interval has

numbers_length : (a : ℤ) (k : ℕ) → length (numbers_up a k) ≡ k
numbers_length a zero = refl
numbers_length a (suc k) = ap suc (numbers_length (a +ℤ pos 1) k)

natural_none : (z : ℤ) → z ≤ℤ pos 0 → natural z ≡ 0
natural_none (pos n) h = let k : n ≡ 0 = omega (arith, ints) in k
natural_none (negsuc n) h = refl

natural_more : (z : ℤ) → pos 0 ≤ℤ z → natural (z +ℤ pos 1) ≡ suc (natural z)
natural_more (pos n) h = let k : n + 1 ≡ suc n = omega arith in k
natural_more (negsuc n) h = absurd (omega (arith, ints))

natural_abs : (z : ℤ) → pos 0 ≤ℤ z → natural z ≡ unsigned_abs z
natural_abs (pos n) h = refl
natural_abs (negsuc n) h = absurd (omega (arith, ints))

at_most : (m n : ℕ) → m ≤ n → nat_le m n ≡ true
at_most m n h = grind (arith, nat_tests)

not_at_most : (m n : ℕ) → n < m → nat_le m n ≡ false
not_at_most m n h = grind (arith, nat_tests)

pub no_count : (a b : ℤ) (n : ℕ) → b <ℤ a → nat_le (length (interval a b)) n ≡ true
no_count a b n h =
    let l = numbers_length a (natural ((b -ℤ a) +ℤ pos 1)) in
    let z : natural ((b -ℤ a) +ℤ pos 1) ≡ 0 = natural_none ((b -ℤ a) +ℤ pos 1) (omega (arith, ints)) in
    at_most (length (interval a b)) n (omega (arith, l, z))

interval_count : (a b : ℤ) → a ≤ℤ b → length (interval a b) ≡ suc (unsigned_abs (b -ℤ a))
interval_count a b h =
    let d : pos 0 ≤ℤ (b -ℤ a) = omega (arith, ints) in
    numbers_length a (natural ((b -ℤ a) +ℤ pos 1)) ∙ natural_more (b -ℤ a) d ∙ ap suc (natural_abs (b -ℤ a) d)

pub within_count : (a b : ℤ) (n : ℕ) → a ≤ℤ b → unsigned_abs (b -ℤ a) < n → nat_le (length (interval a b)) n ≡ true
within_count a b n h k = let l = interval_count a b h in at_most (length (interval a b)) n (omega (arith, l))

pub above_count : (a b : ℤ) (n : ℕ) → a ≤ℤ b → n ≤ unsigned_abs (b -ℤ a) → nat_le (length (interval a b)) n ≡ false
above_count a b n h k = let l = interval_count a b h in not_at_most (length (interval a b)) n (omega (arith, l))

-- ---- the numbers of an interval one by one

pub interval_none : (a b : ℤ) → b <ℤ a → interval a b ≡ []
interval_none a b h = ap (numbers_up a) (natural_none ((b -ℤ a) +ℤ pos 1) (omega (arith, ints)))

pub interval_more : (a b : ℤ) → a ≤ℤ b → interval a b ≡ number a ∷ interval (a +ℤ pos 1) b
interval_more a b h =
    let next : (b -ℤ (a +ℤ pos 1)) +ℤ pos 1 ≡ b -ℤ a = omega (arith, ints) in
    ap (numbers_up a) (natural_more (b -ℤ a) (omega (arith, ints))) ∙ ap (λ z. number a ∷ numbers_up (a +ℤ pos 1) (natural z)) (sym next)

pub interval_one : (b : ℤ) → interval b b ≡ number b ∷ []
interval_one b = let one : (b -ℤ b) +ℤ pos 1 ≡ pos 1 = omega (arith, ints) in ap (λ z. numbers_up b (natural z)) one

-- one more number is written
pub interval_step : (n m k high : ℤ) (old new : List Val) (whole : List Value) → n ≤ℤ high → map pure_val old ++ interval n high ≡ whole → new ≡ old ++ variant.Num k ∷ [] → k ≡ n → m ≡ n +ℤ pos 1
    → map pure_val new ++ interval m high ≡ whole
interval_step n m k high old new whole h so_far e p q =
    ap (λ l. map pure_val l ++ interval m high) e ∙ ap (λ l. l ++ interval m high) (map_push pure_val old (variant.Num k))
    ∙ ap (λ v. (map pure_val old ++ v ∷ []) ++ interval m high) (pure_num k ∙ ap number p)
    ∙ append_assoc (map pure_val old) (number n ∷ []) (interval m high)
    ∙ ap (λ z. map pure_val old ++ (number n ∷ interval z high)) q
    ∙ ap (λ l. map pure_val old ++ l) (sym (interval_more n high h)) ∙ so_far

pub interval_last : (n k high : ℤ) (old new : List Val) (whole : List Value) → n ≡ high → map pure_val old ++ interval n high ≡ whole → new ≡ old ++ variant.Num k ∷ [] → k ≡ high → map pure_val new ≡ whole
interval_last n k high old new whole h so_far e p =
    ap (map pure_val) e ∙ map_push pure_val old (variant.Num k) ∙ ap (λ v. map pure_val old ++ v ∷ []) (pure_num k ∙ ap number p)
    ∙ ap (λ l. map pure_val old ++ l) (sym (interval_one high)) ∙ ap (λ z. map pure_val old ++ interval z high) (sym h) ∙ so_far
