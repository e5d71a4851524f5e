-- The item of a matrix is looked up over the index domain of the matrix.
use Rattle.std.proofs.Common.{◌≡◌, refl, sym, ap, ◌∙◌, zero, suc, Bool, true, false, ◌||◌, if◌then◌else◌, List, [], ◌∷◌, ◌++◌, Option, Some, None, option_map, length, nat_eq, arith}
use Rattle.std.proofs.lemmas.Bool.{eqb-true}
use Rattle.std.specs.Prelude.{IsTrue, is_some}
use Rattle.std.specs.List.{list_all}
use Rattle.ess_semantics.specs.declared.words.Op2.{Op2}
use Rattle.ess_semantics.specs.Lists.{and_then, all_some, when}
use Rattle.ess_semantics.specs.Values.{Text, a_matrix, Value, truth, Values, nil, cons, matrix, to_list, of_list, items_of, itself}
use Rattle.ess_semantics.specs.Order.{same}
use Rattle.ess_semantics.specs.Collections.{holds, rises}
use Rattle.ess_semantics.specs.Names.{Names}
use Rattle.ess_semantics.specs.Trees.{by_value, index, name_pat, Ex, Exs, name_ex, node_ex, matrix_ex, comp_ex, ex2, no_exs, more_exs, no_gens, over, cond, Dom}
use Rattle.ess_semantics.specs.Types.{Ty, compound2}
use Rattle.ess_semantics.specs.Typing.{type_of}
use Rattle.ess_semantics.specs.Typed.{Typed}
use Rattle.ess_semantics.specs.TypeMembers.{is_of, is_of_type}
use Rattle.ess_semantics.specs.Operators.{item_at, list_value, value_of_node, false_where_undefined}
use Rattle.ess_semantics.specs.Meaning.{Env, TypeEntry, meaning, meanings, domain_of, members_in, collect, where_true, matrix_value}
use Rattle.ess_semantics.specs.Meets.{Meets}
use Rattle.ess_semantics.specs.Contexts.{EachOf}
use Rattle.ess_semantics.proofs.Tests.{and-left, and-right}
use Rattle.ess_semantics.proofs.Orders.{same-equal, to_list-of_list}
use Rattle.ess_semantics.proofs.Sorting.{Distinct, sorted-of}
use Rattle.ess_semantics.proofs.Repeats.{sorted-distinct}
use Rattle.ess_rules_laws.specs.Rules.{Unused, SoundOperands, OperandsThere}
use Rattle.ess_rules_laws.specs.Lookups.{found, Looked}
use Rattle.ess_rules_laws.specs.FunctionLookups.{unmarked}
use Rattle.ess_rules_laws.specs.PartLookups.{lookup_through, part_lookup, fits_place, item_type_of, matrix_lookup, indices_of, IndexedBy, FirstIndexedBy, PartsAreLookedUp}
use Rattle.ess_rules_laws.proofs.Bindings.{collect-each}
use Rattle.ess_rules_laws.proofs.RuleAnswers.{behind, meaning-behind, meets-behind, name-behind, each-any, both-there}
use Rattle.ess_rules_laws.proofs.Connectives.{binary-means}
use Rattle.ess_rules_laws.proofs.Listing.{append-none}
use Rattle.ess_rules_laws.proofs.Lookups.{single, collect-found}
use Rattle.ess_rules_laws.proofs.FunctionLookups.{AnswerLooks, looks}
use Rattle.ess_rules_laws.proofs.MatrixViews.{view-indexed}
use Rattle.ess_rules_laws.proofs.PartLookups.{looks-so, fits-found, typed-fits, no, no-place, through-answer, part-answer}

-- ---- lists in which each value is once

-- What stands behind one value is collected once, where the value is in the list.
once : (w : Value) (K : Option (List Value)) (is : List Value) → Distinct is →
    collect is (λ j. where_true (Some (truth (same j w))) (λ u. K)) ≡ (if holds is w then K else Some [])
once w K [] d = refl
once w K (j ∷ js) d = go (same j w) refl (once w K js d.1)
  where
    Rest : Option (List Value)
    Rest = collect js (λ j. where_true (Some (truth (same j w))) (λ u. K))

    go : (b : Bool) → same j w ≡ b → Rest ≡ (if holds js w then K else Some []) →
        and_then (where_true (Some (truth b)) (λ u. K)) (λ xs. option_map (λ ys. xs ++ ys) Rest) ≡ (if b || holds js w then K else Some [])
    go true q r = let e : holds js w ≡ false = ap (holds js) (sym (same-equal j w q)) ∙ d.0 in
        ap (λ o. and_then K (λ xs. option_map (λ ys. xs ++ ys) o)) (r ∙ ap (λ b. if b then K else Some []) e) ∙ collect-found K
    go false q r = append-none Rest ∙ r

-- ---- items of matrices

-- The item at an index that the matrix has.
item-held : (f : Value → Bool) (is xs : Values) (w : Value) → length (to_list is) ≡ length (to_list xs) → list_all f (to_list xs) ≡ true →
    holds (to_list is) w ≡ true → (v : Value) × (item_at is xs w ≡ Some v) × (f v ≡ true)
item-held f (cons i is) (cons x xs) w n a h = go (same i w) h (λ z. item-held f is xs w (omega arith) (and-right _ _ a) z)
  where
    go : (b : Bool) → b || holds (to_list is) w ≡ true →
        (holds (to_list is) w ≡ true → (v : Value) × (item_at is xs w ≡ Some v) × (f v ≡ true)) →
        (v : Value) × ((if b then Some x else item_at is xs w) ≡ Some v) × (f v ≡ true)
    go true h r = (x, refl, and-left _ _ a)
    go false h r = r h
item-held f (cons i is) nil w n a h = absurd (let z : suc (length (to_list is)) ≡ zero = n in omega arith)
item-held f nil xs w n a h = no h

-- At any other index there is none.
item-missing : (is xs : Values) (w : Value) → holds (to_list is) w ≡ false → item_at is xs w ≡ None
item-missing (cons i is) (cons x xs) w h = go (same i w) h (λ z. item-missing is xs w z)
  where
    go : (b : Bool) → b || holds (to_list is) w ≡ false → (holds (to_list is) w ≡ false → item_at is xs w ≡ None) →
        (if b then Some x else item_at is xs w) ≡ None
    go true h r = no (sym h)
    go false h r = r h
item-missing (cons i is) nil w h = refl
item-missing nil xs w h = refl

-- A value of a type of matrices.
record IsMatrix (p : Bool) (es : List TypeEntry) (u : Ty) (v : Value) : Type 0 where
  pub indices : Values
  pub parts : Values
  pub is_matrix : v ≡ matrix indices parts
  pub rising : rises itself (to_list indices) ≡ true
  pub as_many : nat_eq (length (to_list indices)) (length (to_list parts)) ≡ true
  pub typed : list_all (is_of p es u) (to_list parts) ≡ true

matrix-of : (p : Bool) (es : List TypeEntry) (t u : Ty) (v : Value) → is_of p es (compound2 a_matrix t u) v ≡ true → IsMatrix p es u v
matrix-of p es t u (matrix is xs) h = let a = and-left _ _ (and-left _ _ h) in record {
  indices = is;
  parts = xs;
  is_matrix = refl;
  rising = and-left _ _ a;
  as_many = and-right _ _ a;
  typed = and-right _ _ h;
}
matrix-of p es t u _ h = no h

-- What holds of any value holds at each value.
each-of-any : (o : Option (List Value)) (P : Value → Type 0) → ((v : Value) → P v) → EachOf o P
each-of-any None P f = tt
each-of-any (Some vs) P f = each-any vs P f

-- An item of a matrix.
abbrev Item : Ex → Bool → Ex → Ex
Item m b i = node_ex b (index (by_value ∷ [])) (more_exs m (more_exs i no_exs))

module _ (x : Text) (d : Dom) (b : Bool) (m i : Ex) (u : Ty) (env : Env) (v w : Value) (new-m : Unused x m) (new-i : Unused x i)
    (j : meaning m env ≡ Some v) (k : meaning i env ≡ Some w) (fits : fits_place b (Some u) ≡ true)
    (a : IsMatrix env.positions env.types u v) (by : IndexedBy m d env) where
  abbrev Test : Ex
  Test = ex2 true Op2.Eq (name_ex x) i

  abbrev At : Value → Option (List Value)
  At y = where_true (meaning Test (behind x y env)) (λ z. single (meaning (Item m b (name_ex x)) (behind x y env)))

  -- The item at an index.
  abbrev Part : Value → Option Value
  Part y = value_of_node (index (by_value ∷ [])) (Some (matrix a.indices a.parts) ∷ Some y ∷ [])

  item-there : (y : Value) → meaning (Item m b (name_ex x)) (behind x y env) ≡ false_where_undefined b (Part y)
  item-there y =
      ap (λ o. false_where_undefined b (value_of_node (index (by_value ∷ [])) (o ∷ meaning (name_ex x) (behind x y env) ∷ [])))
      (meaning-behind x y m env new-m ∙ j ∙ ap Some a.is_matrix)
      ∙ ap (λ o. false_where_undefined b (value_of_node (index (by_value ∷ [])) (Some (matrix a.indices a.parts) ∷ o ∷ [])))
      (name-behind x y env)

  whole-there : meaning (Item m false i) env ≡ Part w
  whole-there =
      ap (λ o. value_of_node (index (by_value ∷ [])) (o ∷ meaning i env ∷ [])) (j ∙ ap Some a.is_matrix)
      ∙ ap (λ o. value_of_node (index (by_value ∷ [])) (Some (matrix a.indices a.parts) ∷ o ∷ [])) k

  at-index : (y : Value) → At y ≡ where_true (Some (truth (same y w))) (λ z. single (false_where_undefined b (Part w)))
  at-index y =
      ap (λ o. where_true o (λ z. single (meaning (Item m b (name_ex x)) (behind x y env))))
      (binary-means (behind x y env) true Op2.Eq (name_ex x) i y w (name-behind x y env) (meaning-behind x y i env new-i ∙ k))
      ∙ ap (λ o. where_true (Some (truth (same y w))) (λ z. single o)) (item-there y) ∙ go (same y w) refl
    where
      go : (c : Bool) → same y w ≡ c → where_true (Some (truth c)) (λ z. single (false_where_undefined b (Part y))) ≡
          where_true (Some (truth c)) (λ z. single (false_where_undefined b (Part w)))
      go true q = ap (λ z. single (false_where_undefined b (Part z))) (same-equal y w q)
      go false q = refl

  distinct : Distinct (to_list a.indices)
  distinct = sorted-distinct (to_list a.indices) (sorted-of (to_list a.indices) a.rising)

  domain-is : members_in (domain_of d env) ≡ Some (to_list a.indices)
  domain-is = sym by.indices ∙ ap (option_map indices_of) (j ∙ ap Some a.is_matrix)

  one-found : option_map items_of (option_map list_value (if holds (to_list a.indices) w then single (false_where_undefined b (Part w))
      else Some [])) ≡ Some (found (Part w))
  one-found = go (holds (to_list a.indices) w) refl
    where
      go : (c : Bool) → holds (to_list a.indices) w ≡ c →
          option_map items_of (option_map list_value (if c then single (false_where_undefined b (Part w)) else Some [])) ≡
          Some (found (Part w))
      go true q = let r = item-held (is_of env.positions env.types u) a.indices a.parts w (eqb-true _ _ a.as_many) a.typed q in
          let e : Part w ≡ Some r.0 = ap (λ o. and_then o (λ z. Some z)) r.1 in
          ap (λ o. option_map items_of (option_map list_value (single (false_where_undefined b o)))) e
          ∙ fits-found b (Some r.0) (typed-fits b env.positions env.types u r.0 fits r.2) ∙ ap (λ o. Some (found o)) (sym e)
      go false q = ap (λ o. Some (found o)) (sym (ap (λ o. and_then o (λ z. Some z)) (item-missing a.indices a.parts w q)))

  matrix-looks : Meets m env → Meets i env →
      Looked (Item m false i) (comp_ex (Item m b (name_ex x)) (over (name_pat x) d (cond Test no_gens))) env
  matrix-looks mm mi = record {
    items =
        ap (λ o. option_map items_of (option_map list_value (and_then o (λ vs. collect vs At)))) domain-is
        ∙ ap (λ o. option_map items_of (option_map list_value o))
        (collect-each (to_list a.indices) _ _ (each-any (to_list a.indices) _ at-index)
        ∙ once w (single (false_where_undefined b (Part w))) (to_list a.indices) distinct)
        ∙ one-found ∙ ap (λ o. Some (found o)) (sym whole-there);
    met = (
      by.met,
      each-of-any (members_in (domain_of d env)) _ (λ y.
          ((tt, (meets-behind x y i env new-i mi, tt)), λ z. (meets-behind x y m env new-m mm, (tt, tt)))),
    );
  }

typed-answer : (o : Option Ty) (x : Text) (d : Dom) (b : Bool) (m i : Ex) (env : Env) (v w : Value) → Unused x m → Unused x i →
    meaning m env ≡ Some v → meaning i env ≡ Some w → ((t : Ty) → o ≡ Some t → IsTrue (is_of_type t env v)) → IndexedBy m d env →
    Meets m env → Meets i env →
    AnswerLooks (if fits_place b (item_type_of o)
    then Some (comp_ex (Item m b (name_ex x)) (over (name_pat x) d (cond (ex2 true Op2.Eq (name_ex x) i) no_gens))) else None)
    (node_ex false (index (by_value ∷ [])) (more_exs m (more_exs i no_exs))) env
typed-answer (Some (compound2 a_matrix t u)) x d b m i env v w new-m new-i j k f by mm mi =
    looks-so (fits_place b (Some u)) _ _ env (λ c.
    matrix-looks x d b m i u env v w new-m new-i j k c (matrix-of env.positions env.types t u v (f (compound2 a_matrix t u) refl)) by mm mi)
typed-answer _ x d b m i env v w new-m new-i j k f by mm mi = looks-so (fits_place b None) _ _ env (λ c. no-place b c)

matrix-answer : (g : Names Ty) (x : Text) (d : Dom) (e : Ex) → Unused x e → SoundOperands g e → (env : Env) → Typed g env →
    OperandsThere e env → FirstIndexedBy d e env → Meets e env →
    AnswerLooks (matrix_lookup g x d e) (unmarked e) env
matrix-answer g x d (node_ex b (index (by_value ∷ [])) (more_exs m (more_exs i no_exs))) new s env y h by k =
    let r = both-there (meaning m env) (meaning i env) h in
    typed-answer (type_of m g) x d b m i env r.0 r.1 new.0 new.1.0 r.2 r.3 (λ t q. s.0 t q env y r.0 r.2) by k.0 k.1.0
matrix-answer g x d _ new s env y h by k = tt

-- ---- literals

literal-indexed : (es : Exs) (d : Dom) (env : Env) → IsTrue (is_some (meaning (matrix_ex es d) env)) → Meets (matrix_ex es d) env →
    IndexedBy (matrix_ex es d) d env
literal-indexed es d env t m = record { indices = go (all_some (meanings es env)) (members_in (domain_of d env)) t; met = m.1 }
  where
    made : (c : Bool) (is xs : List Value) → is_some (when c (matrix (of_list is) (of_list xs))) ≡ true →
        option_map indices_of (when c (matrix (of_list is) (of_list xs))) ≡ Some is
    made true is xs t = ap Some (to_list-of_list is)
    made false is xs t = no t

    go : (o p : Option (List Value)) → is_some (and_then o (matrix_value p)) ≡ true → option_map indices_of (and_then o (matrix_value p)) ≡
        p
    go None p t = no t
    go (Some xs) None t = no t
    go (Some xs) (Some is) t = made (nat_eq (length is) (length xs)) is xs t

-- Components, fields and items of matrices are looked up.
pub parts-looked : PartsAreLookedUp
parts-looked = record {
  through_a_lookup = λ x k l e f q o env s m. looks (lookup_through x k l e) (unmarked e) f env (through-answer x k l e o env s m) q;
  of_tuples_and_records = λ g x l e f q o s env t h m. looks (part_lookup g x l e) (unmarked e) f env (part-answer g x l e o s env t h m) q;
  of_matrices = λ g x d e f q o s env t h by m. looks (matrix_lookup g x d e) (unmarked e) f env (matrix-answer g x d e o s env t h by m) q;
  literals_are_indexed = literal-indexed;
  views_are_indexed = view-indexed;
}
