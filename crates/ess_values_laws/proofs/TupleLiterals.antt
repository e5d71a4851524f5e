-- Tuples and records that a literal has are printed as literals that have them: a record with its fields by name.
use Rattle.std.proofs.Common.{◌≡◌, refl, ap, ◌∙◌, subst, true, false, ◌||◌, not, if◌then◌else◌, List, [], ◌∷◌, map, Some, None}
use Rattle.std.specs.declared.cmp.Ordering.{Ordering}
use Rattle.std.specs.declared.cmp.Ordering.TheVariants.{Less, Equal, Greater}
use Rattle.std.specs.Ordering.{is_eq}
use Rattle.ess_semantics.specs.Lists.{and_then, all_some, zip}
use Rattle.ess_semantics.specs.Values.{Text, Kind, a_tuple, a_record, Value, tuple, of_list}
use Rattle.ess_semantics.specs.Order.{order_text, same_text}
use Rattle.ess_semantics.specs.Names.{Names, keys, is_among, all_distinct, insert_by, insert_name, by_name}
use Rattle.ess_semantics.specs.Trees.{tuple_literal, record_literal}
use Rattle.ess_semantics.specs.Types.{Ty, compound, Tys, no_tys, more_tys, tys_of}
use Rattle.ess_semantics.specs.OperatorTypes.{type_of_op, record_ty}
use Rattle.ess_semantics.specs.Operators.{value_of_op, record_value}
use Rattle.ess_semantics.specs.Meaning.{Env}
use Rattle.ess_semantics.specs.Literals.{types_of_literals}
use Rattle.ess_semantics.proofs.Tests.{and-left, and-right, and-both, not-true, or-left-no, or-right-no}
use Rattle.ess_grammar.specs.ValueTexts.{literals_of}
use Rattle.ess_grammar.specs.Readable.{names_rise}
use Rattle.ess_grammar.proofs.RecordFields.{by-name-rises, by-name-itself}
use Rattle.ess_values_laws.specs.ItemNames.{item_name}
use Rattle.ess_values_laws.proofs.TypeOrder.{AllWithin, all-within-parts}
use Rattle.ess_values_laws.proofs.JoinedTypes.{has_parts}
use Rattle.ess_values_laws.proofs.Printed.{Printed, PrintedEach, in-order}

-- types that say no more of each part have parts
each-has-parts : (k l : Kind) (us ts : Tys) → AllWithin us ts → has_parts (compound k ts) ≡ true → has_parts (compound l us) ≡ true
each-has-parts k l no_tys no_tys h e = e
each-has-parts k l no_tys (more_tys t ts) h e = absurd h
each-has-parts k l (more_tys u us) ts h e = refl

-- ---- tuples

pub tuple-literal-printed : (env : Env) (xs : List Value) (ts : List Ty) → PrintedEach env xs ts → Printed env (tuple (of_list xs)) (compound a_tuple (tys_of ts))
tuple-literal-printed env xs ts p =
    let r = in-order env xs ts p in
    record {
      u = compound a_tuple (tys_of r.us);
      typed = ap (λ o. and_then o (type_of_op tuple_literal)) r.types;
      valued = ap (λ o. and_then o (value_of_op tuple_literal)) r.values;
      within = (refl, all-within-parts _ (tys_of r.us) (tys_of ts) r.within);
      parts = each-has-parts a_tuple a_tuple (tys_of r.us) (tys_of ts) r.within;
    }

-- ---- names that differ

among-insert : {A : Type 0} (x : Text × A) (xs : Names A) (a : Text) → same_text x.0 a ≡ false → is_among (keys xs) a ≡ false → is_among (keys (insert_name x xs)) a ≡ false
among-insert x [] a p q = ap (λ b. b || false) p
among-insert x (y ∷ ys) a p q = go (order_text x.0 y.0) (among-insert x ys a p (or-right-no (same_text y.0 a) (is_among (keys ys) a) q))
  where
    first : same_text x.0 a || (same_text y.0 a || is_among (keys ys) a) ≡ false
    first = ap (λ b. b || (same_text y.0 a || is_among (keys ys) a)) p ∙ q

    go : (o : Ordering) → is_among (keys (insert_name x ys)) a ≡ false → is_among (keys (insert_by o x y ys (insert_name x ys))) a ≡ false
    go Less ih = first
    go Equal ih = first
    go Greater ih = ap (λ b. b || is_among (keys (insert_name x ys)) a) (or-left-no (same_text y.0 a) (is_among (keys ys) a) q) ∙ ih

distinct-insert : {A : Type 0} (x : Text × A) (xs : Names A) → is_among (keys xs) x.0 ≡ false → all_distinct (keys xs) ≡ true → all_distinct (keys (insert_name x xs)) ≡ true
distinct-insert x [] p q = refl
distinct-insert x (y ∷ ys) p q = go (order_text x.0 y.0) refl (distinct-insert x ys (or-right-no (same_text y.0 x.0) (is_among (keys ys) x.0) p) rest)
  where
    among : is_among (keys ys) y.0 ≡ false
    among = not-true (is_among (keys ys) y.0) (and-left (not (is_among (keys ys) y.0)) (all_distinct (keys ys)) q)

    rest : all_distinct (keys ys) ≡ true
    rest = and-right (not (is_among (keys ys) y.0)) (all_distinct (keys ys)) q

    first : all_distinct (x.0 ∷ y.0 ∷ keys ys) ≡ true
    first = and-both (not (is_among (y.0 ∷ keys ys) x.0)) (all_distinct (y.0 ∷ keys ys)) (ap not p) q

    go : (o : Ordering) → order_text x.0 y.0 ≡ o → all_distinct (keys (insert_name x ys)) ≡ true → all_distinct (keys (insert_by o x y ys (insert_name x ys))) ≡ true
    go Less e ih = first
    go Equal e ih = first
    go Greater e ih =
        and-both (not (is_among (keys (insert_name x ys)) y.0)) (all_distinct (keys (insert_name x ys)))
        (ap not (among-insert x ys y.0 (ap is_eq e) among)) ih

among-by-name : {A : Type 0} (xs : Names A) (a : Text) → is_among (keys xs) a ≡ false → is_among (keys (by_name xs)) a ≡ false
among-by-name [] a h = refl
among-by-name (x ∷ xs) a h =
    among-insert x (by_name xs) a (or-left-no (same_text x.0 a) (is_among (keys xs) a) h) (among-by-name xs a (or-right-no (same_text x.0 a) (is_among (keys xs) a) h))

distinct-by-name : {A : Type 0} (xs : Names A) → all_distinct (keys xs) ≡ true → all_distinct (keys (by_name xs)) ≡ true
distinct-by-name [] h = refl
distinct-by-name (x ∷ xs) h =
    distinct-insert x (by_name xs)
    (among-by-name xs x.0 (not-true (is_among (keys xs) x.0) (and-left (not (is_among (keys xs) x.0)) (all_distinct (keys xs)) h)))
    (distinct-by-name xs (and-right (not (is_among (keys xs) x.0)) (all_distinct (keys xs)) h))

among-zip : {A : Type 0} (ns : List Text) (xs : List A) (a : Text) → is_among ns a ≡ false → is_among (keys (zip ns xs)) a ≡ false
among-zip [] xs a h = refl
among-zip (n ∷ ns) [] a h = refl
among-zip (n ∷ ns) (x ∷ xs) a h =
    ap (λ b. b || is_among (keys (zip ns xs)) a) (or-left-no (same_text n a) (is_among ns a) h) ∙ among-zip ns xs a (or-right-no (same_text n a) (is_among ns a) h)

distinct-zip : {A : Type 0} (ns : List Text) (xs : List A) → all_distinct ns ≡ true → all_distinct (keys (zip ns xs)) ≡ true
distinct-zip [] xs h = refl
distinct-zip (n ∷ ns) [] h = refl
distinct-zip (n ∷ ns) (x ∷ xs) h =
    and-both (not (is_among (keys (zip ns xs)) n)) (all_distinct (keys (zip ns xs)))
    (ap not (among-zip ns xs n (not-true (is_among ns n) (and-left (not (is_among ns n)) (all_distinct ns) h))))
    (distinct-zip ns xs (and-right (not (is_among ns n)) (all_distinct ns) h))

-- The fields of a record, in their order, differ.
pub fields-distinct : {A : Type 0} (ns : List Text) (xs : List A) → all_distinct ns ≡ true → all_distinct (keys (by_name (zip ns xs))) ≡ true
fields-distinct ns xs h = distinct-by-name (zip ns xs) (distinct-zip ns xs h)

-- ---- records

zip-itself : {A : Type 0} (xs : Names A) → zip (keys xs) (map (λ x. x.1) xs) ≡ xs
zip-itself [] = refl
zip-itself (x ∷ xs) = ap (λ ys. x ∷ ys) (zip-itself xs)

module _ (env : Env) where
  -- fields of one name each, printed
  abbrev FieldsPrinted : Names Value → Names Ty → Type 0
  FieldsPrinted [] [] = Unit {0}
  FieldsPrinted (x ∷ xs) (t ∷ ts) = (x.0 ≡ t.0) × Printed env x.1 t.1 × FieldsPrinted xs ts
  FieldsPrinted xs ts = ⊥

  zip-printed : (ns : List Text) (xs : List Value) (ts : List Ty) → PrintedEach env xs ts → FieldsPrinted (zip ns xs) (zip ns ts)
  zip-printed [] xs ts p = tt
  zip-printed (n ∷ ns) [] [] p = tt
  zip-printed (n ∷ ns) [] (t ∷ ts) p = absurd p
  zip-printed (n ∷ ns) (x ∷ xs) [] p = absurd p
  zip-printed (n ∷ ns) (x ∷ xs) (t ∷ ts) p = (refl, p.0, zip-printed ns xs ts p.1)

  insert-printed : (x : Text × Value) (t : Text × Ty) (xs : Names Value) (ts : Names Ty) → x.0 ≡ t.0 → Printed env x.1 t.1 → FieldsPrinted xs ts → FieldsPrinted (insert_name x xs) (insert_name t ts)
  insert-printed x t [] [] e p h = (e, p, tt)
  insert-printed x t [] (u ∷ us) e p h = absurd h
  insert-printed x t (y ∷ ys) [] e p h = absurd h
  insert-printed x t (y ∷ ys) (u ∷ us) e p h =
      subst (λ o. FieldsPrinted (insert_name x (y ∷ ys)) (insert_by o t u us (insert_name t us)))
      (ap (λ a. order_text a y.0) e ∙ ap (order_text t.0) h.0)
      (go (order_text x.0 y.0) (insert-printed x t ys us e p h.2))
    where
      go : (o : Ordering) → FieldsPrinted (insert_name x ys) (insert_name t us) → FieldsPrinted (insert_by o x y ys (insert_name x ys)) (insert_by o t u us (insert_name t us))
      go Less ih = (e, p, h)
      go Equal ih = (e, p, h)
      go Greater ih = (h.0, h.1, ih)

  by-name-printed : (xs : Names Value) (ts : Names Ty) → FieldsPrinted xs ts → FieldsPrinted (by_name xs) (by_name ts)
  by-name-printed [] [] h = tt
  by-name-printed [] (t ∷ ts) h = absurd h
  by-name-printed (x ∷ xs) [] h = absurd h
  by-name-printed (x ∷ xs) (t ∷ ts) h = insert-printed x t (by_name xs) (by_name ts) h.0 h.1 (by-name-printed xs ts h.2)

  printed-fields : (xs : Names Value) (ts : Names Ty) → FieldsPrinted xs ts → PrintedEach env (map (λ x. x.1) xs) (map (λ t. t.1) ts)
  printed-fields [] [] h = tt
  printed-fields [] (t ∷ ts) h = absurd h
  printed-fields (x ∷ xs) [] h = absurd h
  printed-fields (x ∷ xs) (t ∷ ts) h = (h.1, printed-fields xs ts h.2)

  one-keys : (xs : Names Value) (ts : Names Ty) → FieldsPrinted xs ts → keys xs ≡ keys ts
  one-keys [] [] h = refl
  one-keys [] (t ∷ ts) h = absurd h
  one-keys (x ∷ xs) [] h = absurd h
  one-keys (x ∷ xs) (t ∷ ts) h = ap (λ a. a ∷ keys xs) h.0 ∙ ap (λ ns. t.0 ∷ ns) (one-keys xs ts h.2)

  -- types beside the names
  keys-beside : (xs : Names Value) (ts : Names Ty) (us : List Ty) → FieldsPrinted xs ts → AllWithin (tys_of us) (tys_of (map (λ t. t.1) ts)) →
      (keys (zip (keys xs) us) ≡ keys xs) × (map (λ z. z.1) (zip (keys xs) us) ≡ us)
  keys-beside [] [] [] h w = (refl, refl)
  keys-beside [] [] (u ∷ us) h w = absurd w
  keys-beside [] (t ∷ ts) us h w = absurd h
  keys-beside (x ∷ xs) [] us h w = absurd h
  keys-beside (x ∷ xs) (t ∷ ts) [] h w = absurd w
  keys-beside (x ∷ xs) (t ∷ ts) (u ∷ us) h w =
      let r = keys-beside xs ts us h.2 w.1 in (ap (λ ns. x.0 ∷ ns) r.0, ap (λ vs. u ∷ vs) r.1)

  pub record-literal-printed : (ns : List Text) (xs : List Value) (ts : List Ty) → all_distinct ns ≡ true → PrintedEach env xs ts →
      Printed env (record_value (by_name (zip ns xs))) (record_ty (by_name (zip ns ts)))
  record-literal-printed ns xs ts d p =
      let fs = by_name (zip ns xs) in
      let gs = by_name (zip ns ts) in
      let h = by-name-printed (zip ns xs) (zip ns ts) (zip-printed ns xs ts p) in
      let r = in-order env (map (λ x. x.1) fs) (map (λ t. t.1) gs) (printed-fields fs gs h) in
      let b = keys-beside fs gs r.us h r.within in
      let zs = zip (keys fs) r.us in
      let own : by_name zs ≡ zs = by-name-itself zs (ap names_rise b.0 ∙ by-name-rises (zip ns xs)) in
      record {
        u = compound (a_record (keys fs)) (tys_of r.us);
        typed =
            ap (λ c. if c then and_then (all_some (types_of_literals (literals_of (item_name env.types) (of_list (map (λ x. x.1) fs))) env)) (type_of_op (record_literal (keys fs))) else None) (fields-distinct ns xs d)
            ∙ ap (λ o. and_then o (type_of_op (record_literal (keys fs)))) r.types
            ∙ ap (λ l. Some (record_ty l)) own
            ∙ ap (λ ks. Some (compound (a_record ks) (tys_of (map (λ z. z.1) zs)))) b.0
            ∙ ap (λ vs. Some (compound (a_record (keys fs)) (tys_of vs))) b.1;
        valued =
            ap (λ o. and_then o (value_of_op (record_literal (keys fs)))) r.values
            ∙ ap (λ l. Some (record_value (by_name l))) (zip-itself fs)
            ∙ ap (λ l. Some (record_value l)) (by-name-itself fs (by-name-rises (zip ns xs)));
        within = (ap a_record (one-keys fs gs h), all-within-parts _ (tys_of r.us) (tys_of (map (λ t. t.1) gs)) r.within);
        parts = each-has-parts (a_record (keys gs)) (a_record (keys fs)) (tys_of r.us) (tys_of (map (λ t. t.1) gs)) r.within;
      }
