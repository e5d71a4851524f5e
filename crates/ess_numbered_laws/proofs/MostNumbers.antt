-- What says how many items a list has at most is a number that isn't below 0.
use Rattle.std.proofs.Common.{◌≡◌, refl, sym, ap, ◌∙◌, subst, ℕ, zero, suc, ◌+◌, ◌*◌, Bool, true, false, if◌then◌else◌, List, [], ◌∷◌, ◌++◌, pos, Option, Some, None, option_map, arith}
use Rattle.std.specs.Prelude.{◌+ℤ◌, ◌*ℤ◌}
use Rattle.std.proofs.lemmas.Int.{ints}
use Rattle.ess_semantics.specs.declared.words.Fun.{Fun}
use Rattle.ess_semantics.specs.declared.words.Op2.{Op2}
use Rattle.ess_semantics.specs.Lists.{and_then, all_some}
use Rattle.ess_semantics.specs.Values.{Text, Value, number, truth, items_of}
use Rattle.ess_semantics.specs.Order.{same_text}
use Rattle.ess_semantics.specs.Constants.{operand_count}
use Rattle.ess_semantics.specs.Occurrences.{free_of, has_cells}
use Rattle.ess_semantics.specs.Trees.{binary, word, index, application, tuple_literal, matrix_literal, function_literal, record_literal, name_pat, Pat, Ex, Exs, number_ex, node_ex, matrix_ex, comp_ex, seen_ex, no_exs, more_exs, Gens, no_gens, over, from, cond, Dom, ex2}
use Rattle.ess_semantics.specs.Operators.{number_in, sum_of, list_value, value_of_node}
use Rattle.ess_semantics.specs.Meaning.{Env, meaning, meanings, domain_of, members_in, collect, where_true, with_pat}
use Rattle.ess_semantics.specs.Contexts.{Each}
use Rattle.ess_semantics.proofs.Orders.{to_list-of_list}
use Rattle.ess_guard_laws.specs.IndexDomains.{first_index}
use Rattle.ess_numbered_laws.specs.ThereByForm.{is_there}
use Rattle.ess_numbered_laws.specs.MostItems.{Pick, an_item, a_result, a_component, a_field, pick_of, dom_along, sum_at, all_summed, behind_condition, so_often, members_counted, most, most_behind, most_of_each, most_at, most_of_field, list_axis}
use Rattle.ess_numbered_laws.proofs.Answered.{Answered, answered-map, answered-then, answered-under}
use Rattle.ess_ordered_laws.specs.NumberedItems.{is_from_one}

-- ---- numbers

-- A whole number that isn't below 0.
abbrev pub Natural : Value → Type 0
Natural v = (k : ℕ) × (v ≡ number (pos k))

-- The expression has no other value, under any env.
abbrev pub IsNatural : Ex → Type 0
IsNatural n = (env : Env) (v : Value) → meaning n env ≡ Some v → Natural v

-- The sum of such numbers is one.
pub sum-natural : (xs : List Value) → Each xs Natural → (k : ℕ) × (sum_of xs ≡ pos k)
sum-natural [] h = (zero, refl)
sum-natural (x ∷ xs) h = let r = sum-natural xs h.1 in (
  h.0.0 + r.0,
  ap (λ n. n +ℤ sum_of xs) (ap number_in h.0.1) ∙ ap (λ n. pos h.0.0 +ℤ n) r.1
      ∙ (let e : pos h.0.0 +ℤ pos r.0 ≡ pos (h.0.0 + r.0) = omega (arith, ints) in e),
)

each-appended : (P : Value → Type 0) (xs ys : List Value) → Each xs P → Each ys P → Each (xs ++ ys) P
each-appended P [] ys h k = k
each-appended P (x ∷ xs) ys h k = (h.0, each-appended P xs ys h.1 k)

-- What is collected has what each list has.
pub collect-each : (P : Value → Type 0) (vs : List Value) (F : Value → Option (List Value)) (xs : List Value) →
    ((v : Value) (ys : List Value) → F v ≡ Some ys → Each ys P) → collect vs F ≡ Some xs → Each xs P
collect-each P [] F xs h e = subst (λ l. Each l P) (let z : [] ≡ xs = cc in z) tt
collect-each P (v ∷ vs) F xs h e = go (F v) refl (collect vs F) refl e (λ zs r. collect-each P vs F zs h r)
  where
    go : (o : Option (List Value)) → F v ≡ o → (p : Option (List Value)) → collect vs F ≡ p →
        and_then o (λ xs. option_map (λ ys. xs ++ ys) p) ≡ Some xs → ((zs : List Value) → collect vs F ≡ Some zs → Each zs P) → Each xs P
    go None q p r e k = cc
    go (Some ys) q None r e k = cc
    go (Some ys) q (Some zs) r e k = subst (λ l. Each l P) (let z : ys ++ zs ≡ xs = cc in z) (each-appended P ys zs (h v ys q) (k zs r))

-- The same of what is collected at one value.
pub one-each : (P : Value → Type 0) (o : Option Value) (ys : List Value) → option_map (λ w. w ∷ []) o ≡ Some ys →
    ((w : Value) → o ≡ Some w → P w) →
    Each ys P
one-each P None ys e h = cc
one-each P (Some w) ys e h = subst (λ l. Each l P) (let z : w ∷ [] ≡ ys = cc in z) (h w refl, tt)

-- A sum whose items are such numbers is one.
summed : (o : Option (List Value)) (v : Value) → value_of_node (word Fun.Sum) (option_map list_value o ∷ []) ≡ Some v →
    ((xs : List Value) → o ≡ Some xs → Each xs Natural) → Natural v
summed None v e h = cc
summed (Some xs) v e h = let r = sum-natural xs (h xs refl) in (
  r.0,
  sym (let z : number (sum_of (items_of (list_value xs))) ≡ v = cc in z) ∙ ap (λ l. number (sum_of l)) (to_list-of_list xs)
      ∙ ap number r.1,
)

-- `sum([n | x : d])` of such a number.
over-natural : (n : Ex) (p : Pat) (d : Dom) → IsNatural n → IsNatural (sum_at n (over p d no_gens))
over-natural n p d h env v e = summed (and_then (members_in (domain_of d env)) (λ vs. collect vs F)) v e items
  where
    F : Value → Option (List Value)
    F w = option_map (λ x. x ∷ []) (meaning n (with_pat p w env))

    items : (xs : List Value) → and_then (members_in (domain_of d env)) (λ vs. collect vs F) ≡ Some xs → Each xs Natural
    items xs q = go (members_in (domain_of d env)) q
      where
        go : (o : Option (List Value)) → and_then o (λ vs. collect vs F) ≡ Some xs → Each xs Natural
        go None q = cc
        go (Some vs) q = collect-each Natural vs F xs
            (λ w ys r. one-each Natural (meaning n (with_pat p w env)) ys r (λ u i. h (with_pat p w env) u i)) q

-- `sum([n | c])`.
cond-natural : (n c : Ex) → IsNatural n → IsNatural (sum_at n (cond c no_gens))
cond-natural n c h env v e = summed (where_true (meaning c env) (λ u. option_map (λ x. x ∷ []) (meaning n env))) v e
    (λ xs q. go (meaning c env) xs q)
  where
    none : (xs : List Value) → Some [] ≡ Some xs → Each xs Natural
    none xs q = subst (λ l. Each l Natural) (let z : [] ≡ xs = cc in z) tt

    go : (o : Option Value) (xs : List Value) → where_true o (λ u. option_map (λ x. x ∷ []) (meaning n env)) ≡ Some xs → Each xs Natural
    go (Some (truth true)) xs q = one-each Natural (meaning n env) xs q (λ w i. h env w i)
    go _ xs q = none xs q

-- So it is of each.
abbrev pub AreNatural : Exs → Type 0
AreNatural no_exs = Unit {0}
AreNatural (more_exs n ns) = IsNatural n × AreNatural ns

-- The values of such expressions are such numbers.
pub values-natural : (ns : Exs) (env : Env) → AreNatural ns → (xs : List Value) → all_some (meanings ns env) ≡ Some xs → Each xs Natural
values-natural no_exs env h xs q = subst (λ l. Each l Natural) (let z : [] ≡ xs = cc in z) tt
values-natural (more_exs n ns) env h xs q =
    go (meaning n env) refl (all_some (meanings ns env)) refl q (λ ys j. values-natural ns env h.1 ys j)
  where
    go : (o : Option Value) → meaning n env ≡ o → (p : Option (List Value)) → all_some (meanings ns env) ≡ p →
        and_then o (λ x. option_map (λ ys. x ∷ ys) p) ≡ Some xs →
        ((ys : List Value) → all_some (meanings ns env) ≡ Some ys → Each ys Natural) → Each xs Natural
    go None i p j q k = cc
    go (Some w) i None j q k = cc
    go (Some w) i (Some ys) j q k = subst (λ l. Each l Natural) (let z : w ∷ ys ≡ xs = cc in z) (h.0 env w i, k ys j)

-- `sum([n, ..])`.
list-natural : (ns : Exs) → AreNatural ns → IsNatural (all_summed ns)
list-natural ns h env v e = summed (all_some (meanings ns env)) v (sym (same-sum (all_some (meanings ns env))) ∙ e)
    (λ xs q. values-natural ns env h xs q)
  where
    same-sum : (o : Option (List Value)) → value_of_node (word Fun.Sum) (and_then o (λ xs. Some (list_value xs)) ∷ [])
        ≡ value_of_node (word Fun.Sum) (option_map list_value o ∷ [])
    same-sum None = refl
    same-sum (Some xs) = refl

-- `k * n`.
times-natural : (k n : Ex) → IsNatural k → IsNatural n → IsNatural (ex2 false Op2.Times k n)
times-natural k n h l env v e = go (meaning k env) refl (meaning n env) refl e
  where
    go : (o : Option Value) → meaning k env ≡ o → (p : Option Value) → meaning n env ≡ p → value_of_node (binary Op2.Times) (o ∷ p ∷ [])
        ≡ Some v →
        Natural v
    go None i p j e = cc
    go (Some a) i None j e = cc
    go (Some a) i (Some b) j e = let r = h env a i in let s = l env b j in (
      r.0 * s.0,
      sym (let z : number (number_in a *ℤ number_in b) ≡ v = cc in z) ∙ ap (λ x. number (number_in x *ℤ number_in b)) r.1
          ∙ ap (λ x. number (pos r.0 *ℤ number_in x)) s.1 ∙ ap number (let e : pos r.0 *ℤ pos s.0 ≡ pos (r.0 * s.0) = refl in e),
    )

-- A literal that isn't below 0.
pub literal-natural : (k : ℕ) → IsNatural (number_ex (pos k))
literal-natural k env v e = (k, sym (let z : number (pos k) ≡ v = cc in z))

-- ---- the number

often-natural : (p : Pat) (k n : Ex) → IsNatural k → IsNatural n → Answered (so_often p k n) IsNatural
often-natural (name_pat y) k n h l = answered-under IsNatural (free_of (y ∷ []) (more_exs n no_exs)) _ (λ q. times-natural k n h l)
often-natural _ k n h l = tt

condition-natural : (c n : Ex) → IsNatural n → Answered (behind_condition c n) IsNatural
condition-natural c n l = go (has_cells c)
  where
    go : (b : Bool) → Answered (if b then (if is_there n then Some n else None) else Some (sum_at n (cond c no_gens))) IsNatural
    go true = answered-under IsNatural (is_there n) n (λ q. l)
    go false = cond-natural n c l

mutual
  -- What `most` says of a term.
  pub most-natural : (z : Text) (ps : List Pick) (t : Ex) → Answered (most z ps t) IsNatural
  most-natural z ps (node_ex b (index (q ∷ [])) (more_exs t is)) = most-natural z (pick_of q ∷ ps) t
  most-natural z ps (node_ex b application (more_exs f is)) = most-natural z (a_result ∷ ps) f
  most-natural z ps (node_ex b (word Fun.Image) (more_exs f is)) = most-natural z (a_result ∷ ps) f
  most-natural z [] (node_ex false matrix_literal es) = literal-natural (operand_count es)
  most-natural z (an_item ∷ ps) (node_ex false matrix_literal es) =
      answered-map IsNatural (most_of_each z ps es) all_summed (each-natural z ps es) list-natural
  most-natural z (a_component k ∷ ps) (node_ex false tuple_literal es) = at-natural k z ps es
  most-natural z (a_field a ∷ ps) (node_ex false (record_literal fs) es) = field-natural a fs z ps es
  most-natural z (a_result ∷ ps) (node_ex false function_literal es) =
      answered-map IsNatural (most_of_each z (a_component 2 ∷ ps) es) all_summed (each-natural z (a_component 2 ∷ ps) es) list-natural
  most-natural z [] (matrix_ex es d) =
      answered-under IsNatural (is_from_one d) (number_ex (pos (operand_count es))) (λ q. literal-natural (operand_count es))
  most-natural z (an_item ∷ ps) (matrix_ex es d) =
      answered-map IsNatural (most_of_each z ps es) all_summed (each-natural z ps es) list-natural
  most-natural z [] (comp_ex e gs) = behind-natural z gs (number_ex (pos 1)) (literal-natural 1)
  most-natural z (an_item ∷ ps) (comp_ex e gs) =
      answered-then IsNatural (most z ps e) (most_behind z gs) (most-natural z ps e) (λ n l. behind-natural z gs n l)
  most-natural z ps (seen_ex r d ns es) = at (list_axis (first_index (dom_along ps (Some d))))
    where
      at : (o : Option Dom) → Answered (option_map (members_counted z) o) IsNatural
      at None = tt
      at (Some i) = over-natural (number_ex (pos 1)) (name_pat z) i (literal-natural 1)
  most-natural z ps _ = tt

  -- What is said behind generators.
  pub behind-natural : (z : Text) (gs : Gens) (n : Ex) → IsNatural n → Answered (most_behind z gs n) IsNatural
  behind-natural z no_gens n l = l
  behind-natural z (over p d gs) n l = answered-map IsNatural (most_behind z gs n) _ (behind-natural z gs n l) (λ m k. over-natural m p d k)
  behind-natural z (from p t gs) n l =
      answered-then IsNatural (most z [] t) _ (most-natural z [] t)
      (λ k i. answered-then IsNatural (most_behind z gs n) (so_often p k) (behind-natural z gs n l) (λ m j. often-natural p k m i j))
  behind-natural z (cond c gs) n l = answered-then IsNatural (most_behind z gs n) (behind_condition c) (behind-natural z gs n l)
      (λ m k. condition-natural c m k)

  -- What is said of each of several terms.
  pub each-natural : (z : Text) (ps : List Pick) (es : Exs) → Answered (most_of_each z ps es) AreNatural
  each-natural z ps no_exs = tt
  each-natural z ps (more_exs e es) =
      answered-then AreNatural (most z ps e) _ (most-natural z ps e)
      (λ n l. answered-map AreNatural (most_of_each z ps es) (more_exs n) (each-natural z ps es) (λ ns k. (l, k)))

  at-natural : (k : ℕ) (z : Text) (ps : List Pick) (es : Exs) → Answered (most_at k z ps es) IsNatural
  at-natural k z ps no_exs = tt
  at-natural zero z ps (more_exs e es) = tt
  at-natural (suc zero) z ps (more_exs e es) = most-natural z ps e
  at-natural (suc (suc k)) z ps (more_exs e es) = at-natural (suc k) z ps es

  field-natural : (a : Text) (fs : List Text) (z : Text) (ps : List Pick) (es : Exs) → Answered (most_of_field a fs z ps es) IsNatural
  field-natural a (f ∷ fs) z ps (more_exs e es) = go (same_text f a) (most-natural z ps e) (field-natural a fs z ps es)
    where
      go : (b : Bool) → Answered (most z ps e) IsNatural → Answered (most_of_field a fs z ps es) IsNatural →
          Answered (if b then most z ps e else most_of_field a fs z ps es) IsNatural
      go true l r = l
      go false l r = r
  field-natural a _ z ps _ = tt
