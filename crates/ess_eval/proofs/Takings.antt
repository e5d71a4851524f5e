-- Items that are taken one after the other.
use Rattle.std.proofs.Common.{◌≡◌, Bool, true, false, ◌&&◌, ◌||◌, List, [], ◌∷◌, ◌++◌, append_assoc, append-nil, map, subst, Option, Some, None, option_map, refl, ap, sym, ◌∙◌, ℤ, ◌+ℤ◌, pos, arith}
use Rattle.std.proofs.lemmas.Int.{ints}
use Rattle.std.proofs.lemmas.List.{map-append}
use Rattle.ess_semantics.specs.declared.words.Fun.{Fun}
use Rattle.ess_semantics.specs.Lists.{and_then, is_some_and}
use Rattle.ess_semantics.specs.Values.{Value, number, truth}
use Rattle.ess_semantics.specs.Trees as pure
use Rattle.ess_semantics.specs.Trees.{word, node_ex, comp_ex, more_exs, no_exs}
use Rattle.ess_semantics.specs.Meaning.{Env, meaning}
use Rattle.ess_semantics.specs.Large.{in_64_bits, is_big, is_large}
use Rattle.ess_semantics.specs.Operators.{number_in, truth_in, sum_of, all_true, any_true, list_value, value_of_node, false_where_undefined}
use Rattle.ess_core.specs.ValueViews.{pure_val}
use Rattle.ess_core.specs.TreeViews.{call_mark, pure_gen, pure_gens}
use Rattle.ess_core.specs.declared.expressions.Gen.{Gen}
use Rattle.ess_core.specs.declared.values.Val.{Val}
use Rattle.ess_eval.specs.Items.{items_at}
use Rattle.ess_eval.specs.Folds.{Folded, kept, total, each, one, begun, folded, decided, Taken, list_in, total_in, each_in, one_in, word_in}
use Rattle.ess_eval.proofs.Values.{items_of_list}
use Rattle.ess_eval.proofs.Excuses.{large_word}

-- ---- one item

pub take_kept : (old new : List Val) (v : Val) → new ≡ old ++ v ∷ []
    → Taken true (kept (map pure_val old)) (kept (map pure_val new)) (Some (pure_val v ∷ []))
take_kept old new v h = ap (λ xs. Some (kept xs)) (sym (ap (map pure_val) h ∙ map-append pure_val old (v ∷ [])))

pub take_total : (m n k : ℤ) (v : Value) → k ≡ number_in v → n ≡ m +ℤ k → Taken true (total m) (total n) (Some (v ∷ []))
take_total m n k v h e = ap (λ z. Some (total z)) (omega (arith, ints, h, e))

pub take_each : (b : Bool) (v : Value) → truth_in v ≡ true → Taken true (each b) (each b) (Some (v ∷ []))
take_each true v h = rw h refl
take_each false v h = refl

pub take_not : (b : Bool) (f : Folded) (v : Value) → truth_in v ≡ false → Taken false (each b) f (Some (v ∷ []))
take_not true f v h = rw h refl
take_not false f v h = refl

pub take_one : (b : Bool) (v : Value) → truth_in v ≡ true → Taken true (one b) (one true) (Some (v ∷ []))
take_one true v h = refl
take_one false v h = rw h refl

pub take_none : (b : Bool) (v : Value) → truth_in v ≡ false → Taken true (one b) (one b) (Some (v ∷ []))
take_none true v h = refl
take_none false v h = rw h refl

pub ruleset takes = (take_kept, take_total, take_each, take_not, take_one, take_none)

-- ---- several items

-- No item changes nothing.
pub nothing_more : (f : Folded) → Taken true f f (Some [])
nothing_more (kept xs) = ap (λ l. Some (kept l)) (append-nil xs)
nothing_more (total n) = ap (λ z. Some (total z)) (omega (arith, ints))
nothing_more (each true) = refl
nothing_more (each false) = refl
nothing_more (one true) = refl
nothing_more (one false) = refl

sum_append : (n : ℤ) (xs ys : List Value) → n +ℤ sum_of (xs ++ ys) ≡ (n +ℤ sum_of xs) +ℤ sum_of ys
sum_append n [] ys = omega (arith, ints)
sum_append n (x ∷ xs) ys =
    let e : (n +ℤ number_in x) +ℤ sum_of (xs ++ ys) ≡ ((n +ℤ number_in x) +ℤ sum_of xs) +ℤ sum_of ys =
    sum_append (n +ℤ number_in x) xs ys in
    omega (arith, ints, e)

each_append : (b : Bool) (xs ys : List Value) → b && all_true (xs ++ ys) ≡ (b && all_true xs) && all_true ys
each_append false xs ys = refl
each_append true [] ys = refl
each_append true (x ∷ xs) ys = go (truth_in x) (each_append true xs ys)
  where
    go : (c : Bool) → all_true (xs ++ ys) ≡ all_true xs && all_true ys → c && all_true (xs ++ ys) ≡ (c && all_true xs) && all_true ys
    go true h = h
    go false h = refl

one_append : (b : Bool) (xs ys : List Value) → b || any_true (xs ++ ys) ≡ (b || any_true xs) || any_true ys
one_append true xs ys = refl
one_append false [] ys = refl
one_append false (x ∷ xs) ys = go (truth_in x) (one_append false xs ys)
  where
    go : (c : Bool) → any_true (xs ++ ys) ≡ any_true xs || any_true ys → c || any_true (xs ++ ys) ≡ (c || any_true xs) || any_true ys
    go true h = refl
    go false h = h

-- Items, and then others.
folded_twice : (f : Folded) (xs ys : List Value) → folded f (xs ++ ys) ≡ folded (folded f xs) ys
folded_twice (kept old) xs ys = ap kept (sym (append_assoc old xs ys))
folded_twice (total n) xs ys = ap total (sum_append n xs ys)
folded_twice (each b) xs ys = ap each (each_append b xs ys)
folded_twice (one b) xs ys = ap one (one_append b xs ys)

-- The items that are there were taken, and the rest behind these.
pub taken_on : (old mid : Folded) (o rest : Option (List Value)) → option_map (folded old) o ≡ Some mid
    → option_map (folded mid) rest ≡ option_map (folded old) (and_then o (λ xs. option_map (λ ys. xs ++ ys) rest))
taken_on old mid None rest h = cc
taken_on old mid (Some xs) None h = refl
taken_on old mid (Some xs) (Some ys) h = let e : folded old xs ≡ mid = cc in rw (← e) (ap Some (sym (folded_twice old xs ys)))

stays_decided : (f : Folded) (ys : List Value) → decided (Some f) ≡ true → decided (Some (folded f ys)) ≡ true
stays_decided (kept old) ys h = cc
stays_decided (total n) ys h = cc
stays_decided (each true) ys h = cc
stays_decided (each false) ys h = refl
stays_decided (one b) ys h = cc

-- What the first items decide, no rest changes.
pub decided_on : (f : Folded) (o rest : Option (List Value)) → decided (option_map (folded f) o) ≡ true
    → decided (option_map (folded f) (and_then o (λ xs. option_map (λ ys. xs ++ ys) rest))) ≡ true
decided_on f None rest h = refl
decided_on f (Some xs) None h = refl
decided_on f (Some xs) (Some ys) h = rw (folded_twice f xs ys) (stays_decided (folded f xs) ys h)

-- An item at no generator.
pub item_taken : (e : pure.Ex) (gs : List Gen) (env : Env) (t : Bool) (f g : Folded) (v : Value) → gs ≡ [] → Some v ≡ meaning e env
    → Taken t f g (Some (v ∷ [])) → Taken t f g (items_at e (map pure_gen gs) env)
item_taken e gs env t f g v h k m =
    subst (λ o. Taken t f g o) (ap (option_map (λ w. w ∷ [])) k ∙ ap (λ xs. items_at e (map pure_gen xs) env) (sym h)) m

-- ---- all items

pub list_taken : (t : Bool) (f g : Folded) (o : Option (List Value)) → f ≡ kept [] → Taken t f g o → list_in t g ≡ option_map list_value o
list_taken t f g o e h = go t g o (rw e at h)
  where
    go : (t : Bool) (g : Folded) (o : Option (List Value)) → Taken t (kept []) g o → list_in t g ≡ option_map list_value o
    go true (kept vs) None h = cc
    go true (kept vs) (Some xs) h = let e : xs ≡ vs = cc in ap (λ ys. Some (list_value ys)) (sym e)
    go true (total n) None h = cc
    go true (total n) (Some xs) h = cc
    go true (each b) None h = cc
    go true (each b) (Some xs) h = cc
    go true (one b) None h = cc
    go true (one b) (Some xs) h = cc
    go false g None h = refl
    go false g (Some xs) h = cc

total_taken : (t : Bool) (g : Folded) (o : Option (List Value)) → Taken t (total (pos 0)) g o → total_in t g ≡ option_map sum_of o
total_taken true (total n) None h = cc
total_taken true (total n) (Some xs) h =
    let e : pos 0 +ℤ sum_of xs ≡ n = cc in
    ap Some (omega (arith, ints, e))
total_taken true (kept vs) None h = cc
total_taken true (kept vs) (Some xs) h = cc
total_taken true (each b) None h = cc
total_taken true (each b) (Some xs) h = cc
total_taken true (one b) None h = cc
total_taken true (one b) (Some xs) h = cc
total_taken false g None h = refl
total_taken false g (Some xs) h = cc

each_taken : (t : Bool) (g : Folded) (o : Option (List Value)) → Taken t (each true) g o → each_in t g ≡ is_some_and o all_true
each_taken true (each b) None h = cc
each_taken true (each b) (Some xs) h = cc
each_taken true (kept vs) None h = cc
each_taken true (kept vs) (Some xs) h = cc
each_taken true (total n) None h = cc
each_taken true (total n) (Some xs) h = cc
each_taken true (one b) None h = cc
each_taken true (one b) (Some xs) h = cc
each_taken false g None h = refl
each_taken false g (Some xs) h = go (all_true xs) h
  where
    go : (c : Bool) → decided (Some (each c)) ≡ true → false ≡ c
    go true h = cc
    go false h = refl

one_taken : (t : Bool) (g : Folded) (o : Option (List Value)) → Taken t (one false) g o → one_in t g ≡ is_some_and o any_true
one_taken true (one b) None h = cc
one_taken true (one b) (Some xs) h = cc
one_taken true (kept vs) None h = cc
one_taken true (kept vs) (Some xs) h = cc
one_taken true (total n) None h = cc
one_taken true (total n) (Some xs) h = cc
one_taken true (each b) None h = cc
one_taken true (each b) (Some xs) h = cc
one_taken false g None h = refl
one_taken false g (Some xs) h = cc

-- ---- the value of the word

-- A sum outside 64 bits.
pub sum_big : (o : Option ℤ) → option_map in_64_bits o ≡ Some false → is_big (option_map number o) ≡ true
sum_big None h = cc
sum_big (Some n) h = let e : in_64_bits n ≡ false = cc in rw e refl

-- The value of a word on a list, where the list is there.
abbrev of_word : Fun → Option (List Value) → Option Value
of_word w o = false_where_undefined (call_mark false w) (value_of_node (word w) (option_map list_value o ∷ []))

sum_value : (o : Option (List Value)) → option_map number (option_map sum_of o) ≡ of_word Fun.Sum o
sum_value None = refl
sum_value (Some xs) = ap (λ l. Some (number (sum_of l))) (sym (items_of_list xs))

each_value : (o : Option (List Value)) → Some (truth (is_some_and o all_true)) ≡ of_word Fun.And o
each_value None = refl
each_value (Some xs) = ap (λ l. Some (truth (all_true l))) (sym (items_of_list xs))

one_value : (o : Option (List Value)) → Some (truth (is_some_and o any_true)) ≡ of_word Fun.Or o
one_value None = refl
one_value (Some xs) = ap (λ l. Some (truth (any_true l))) (sym (items_of_list xs))

by_list : (w : Fun) (t : Bool) (g : Folded) (o : Option (List Value)) → Taken t (kept []) g o
    → false_where_undefined (call_mark false w) (value_of_node (word w) (list_in t g ∷ [])) ≡ of_word w o
by_list w t g o h =
    ap (λ x. false_where_undefined (call_mark false w) (value_of_node (word w) (x ∷ []))) (list_taken t (kept []) g o refl h)

word_taken : (w : Fun) (t : Bool) (g : Folded) (o : Option (List Value)) → Taken t (begun w) g o → word_in w t g ≡ of_word w o
word_taken Fun.Sum t g o h = ap (option_map number) (total_taken t g o h) ∙ sum_value o
word_taken Fun.And t g o h = ap (λ b. Some (truth b)) (each_taken t g o h) ∙ each_value o
word_taken Fun.Or t g o h = ap (λ b. Some (truth b)) (one_taken t g o h) ∙ one_value o
word_taken Fun.Product t g o h = by_list Fun.Product t g o h
word_taken Fun.Min t g o h = by_list Fun.Min t g o h
word_taken Fun.Max t g o h = by_list Fun.Max t g o h
word_taken Fun.AllDiff t g o h = by_list Fun.AllDiff t g o h
word_taken Fun.ToInt t g o h = by_list Fun.ToInt t g o h
word_taken Fun.Defined t g o h = by_list Fun.Defined t g o h
word_taken Fun.Range t g o h = by_list Fun.Range t g o h
word_taken Fun.ToSet t g o h = by_list Fun.ToSet t g o h
word_taken Fun.ToMSet t g o h = by_list Fun.ToMSet t g o h
word_taken Fun.ToRelation t g o h = by_list Fun.ToRelation t g o h
word_taken Fun.Parts t g o h = by_list Fun.Parts t g o h
word_taken Fun.Participants t g o h = by_list Fun.Participants t g o h
word_taken Fun.Image t g o h = by_list Fun.Image t g o h
word_taken Fun.PreImage t g o h = by_list Fun.PreImage t g o h
word_taken Fun.Freq t g o h = by_list Fun.Freq t g o h
word_taken Fun.Party t g o h = by_list Fun.Party t g o h
word_taken Fun.Together t g o h = by_list Fun.Together t g o h

-- A comprehension means the list of what was kept of its items, and a word on it what was kept for the word.
pub comprehension_means : (e : pure.Ex) (gs : List Gen) (env : Env) (t : Bool) (f g : Folded) → f ≡ kept []
    → Taken t f g (items_at e (map pure_gen gs) env) → list_in t g ≡ meaning (comp_ex e (pure_gens gs)) env
comprehension_means e gs env t f g h k = list_taken t f g (items_at e (map pure_gen gs) env) h k

pub word_means : (w : Fun) (e : pure.Ex) (gs : List Gen) (env : Env) (t : Bool) (f g : Folded) → f ≡ begun w
    → Taken t f g (items_at e (map pure_gen gs) env)
    → word_in w t g ≡ meaning (node_ex (call_mark false w) (word w) (more_exs (comp_ex e (pure_gens gs)) no_exs)) env
word_means w e gs env t f g h k = let m = rw h at k in word_taken w t g (items_at e (map pure_gen gs) env) m

pub word_large : (w : Fun) (e : pure.Ex) (gs : List Gen) (env : Env) (t : Bool) (f g : Folded) → f ≡ begun w
    → Taken t f g (items_at e (map pure_gen gs) env) → is_big (word_in w t g) ≡ true
    → is_large (node_ex (call_mark false w) (word w) (more_exs (comp_ex e (pure_gens gs)) no_exs)) env ≡ true
word_large w e gs env t f g h k b = large_word w e gs env (ap is_big (sym (word_means w e gs env t f g h k)) ∙ b)
