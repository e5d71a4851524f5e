-- Values whose own literal has them, of a type that says no more than another: sets, multisets, tuples and records of such values.
use Rattle.std.proofs.Common.{◌≡◌, refl, sym, ap, ◌∙◌, subst, ℕ, Bool, true, ◌&&◌, List, [], ◌∷◌, map, Some, option_map, ◌⊎◌, inl, inr}
use Rattle.std.specs.List.{list_all}
use Rattle.ess_semantics.specs.Lists.{zip}
use Rattle.ess_semantics.specs.Values.{Text, Kind, a_tuple, a_matrix, a_set, a_mset, a_record, Value, item, node, Values, nil, cons, to_list, of_list, tuple, itself}
use Rattle.ess_semantics.specs.Collections.{rises, rises_weakly, set_of, mset_of}
use Rattle.ess_semantics.specs.Names.{keys, all_distinct, by_name}
use Rattle.ess_semantics.specs.Trees.{Doms, no_doms, more_doms}
use Rattle.ess_semantics.specs.Types.{Ty, any_ty, compound, Tys, no_tys, more_tys, compound1, tys_of, join_all, types_of_doms}
use Rattle.ess_semantics.specs.OperatorTypes.{record_ty}
use Rattle.ess_semantics.specs.Operators.{record_value}
use Rattle.ess_semantics.specs.Meaning.{Env}
use Rattle.ess_semantics.proofs.Orders.{of_list-to_list}
use Rattle.ess_semantics.proofs.Sorting.{sorted_once-itself}
use Rattle.ess_semantics.proofs.Multisets.{sorted-itself}
use Rattle.ess_semantics.proofs.Tests.{and-left, and-right, and-both}
use Rattle.ess_grammar.specs.Readable.{are_name_tokens, names_rise, some_doms, fit_domains}
use Rattle.ess_grammar.proofs.RecordFields.{by-name-itself}
use Rattle.ess_print_laws.specs.Spelled.{some_values}
use Rattle.ess_values_laws.specs.ItemNames.{item_name}
use Rattle.ess_values_laws.specs.Spellable.{parts_fit, all_parts_fit}
use Rattle.ess_values_laws.proofs.TypeOrder.{Within, AllWithin, all-within-parts}
use Rattle.ess_values_laws.proofs.JoinedTypes.{EachWithin, join-all-within, has_parts, SomeParts, join-all-has-parts}
use Rattle.ess_values_laws.proofs.Printed.{Printed, PrintedEach}
use Rattle.ess_values_laws.proofs.SetLiterals.{set-literal-printed, mset-literal-printed}
use Rattle.ess_values_laws.proofs.TupleLiterals.{tuple-literal-printed, record-literal-printed}
use Rattle.ess_member_literals_laws.specs.ToldDomains.{are_fields}

-- The names agree at each value of a named type in a value, but for the indices of matrices, which no literal names.
module _ (f g : Text → ℕ → Text) where
  abbrev mutual
    pub AgreesOn : Value → Type 0
    AgreesOn (item t k) = f t k ≡ g t k
    AgreesOn (node a_matrix (cons (node k is) (cons (node l xs) nil))) = AgreeOn xs
    AgreesOn (node k vs) = AgreeOn vs
    AgreesOn v = Unit {0}

    pub AgreeOn : Values → Type 0
    AgreeOn nil = Unit {0}
    AgreeOn (cons v vs) = AgreesOn v × AgreeOn vs

module _ (env : Env) (name_of : Text → ℕ → Text) where
  -- The value's tuples and records have parts, and its names are those of the env.
  abbrev pub IsFit : Value → Type 0
  IsFit v = (parts_fit v ≡ true) × AgreesOn name_of (item_name env.types) v

  -- The same of several.
  abbrev pub AreFit : Values → Type 0
  AreFit vs = (all_parts_fit vs ≡ true) × AgreeOn name_of (item_name env.types) vs

  -- v's own literal has v, and a type that says no more than s. Its tuples and records have parts.
  pub record HasLiteral (v : Value) (s : Ty) : Type 0 where
    pub t : Ty
    pub printed : Printed env v t
    pub within : Within t s
    pub fits : IsFit v

  -- The same, and the literal's type has parts.
  pub record HasWhole (v : Value) (s : Ty) : Type 0 where
    pub t : Ty
    pub printed : Printed env v t
    pub within : Within t s
    pub fits : IsFit v
    pub parts : has_parts t ≡ true

  pub whole-literal : (v : Value) (s : Ty) → HasWhole v s → HasLiteral v s
  whole-literal v s h = record { t = h.t; printed = h.printed; within = h.within; fits = h.fits }

  -- At another name of the value.
  pub literal-at : (v w : Value) (t s : Ty) → Printed env v t → v ≡ w → Within t s → IsFit w → HasLiteral w s
  literal-at v w t s p e h k = record { t = t; printed = subst (λ x. Printed env x t) e p; within = h; fits = k }

  pub whole-at : (v w : Value) (t s : Ty) → Printed env v t → v ≡ w → Within t s → IsFit w → has_parts t ≡ true → HasWhole w s
  whole-at v w t s p e h k q = record { t = t; printed = subst (λ x. Printed env x t) e p; within = h; fits = k; parts = q }

  -- ---- several values of one type

  -- Each of these values has such a literal.
  abbrev pub EachHas : List Value → Ty → Type 0
  EachHas [] s = Unit {0}
  EachHas (v ∷ vs) s = HasLiteral v s × EachHas vs s

  -- The same with parts.
  abbrev pub EachWhole : List Value → Ty → Type 0
  EachWhole [] s = Unit {0}
  EachWhole (v ∷ vs) s = HasWhole v s × EachWhole vs s

  pub each-has : (f : Value → Bool) (vs : List Value) (s : Ty) → ((w : Value) → f w ≡ true → HasLiteral w s) → list_all f vs ≡ true →
      EachHas vs s
  each-has f [] s h e = tt
  each-has f (v ∷ vs) s h e = (h v (and-left (f v) (list_all f vs) e), each-has f vs s h (and-right (f v) (list_all f vs) e))

  pub each-whole : (f : Value → Bool) (vs : List Value) (s : Ty) → ((w : Value) → f w ≡ true → HasWhole w s) → list_all f vs ≡ true →
      EachWhole vs s
  each-whole f [] s h e = tt
  each-whole f (v ∷ vs) s h e = (h v (and-left (f v) (list_all f vs) e), each-whole f vs s h (and-right (f v) (list_all f vs) e))

  -- The types of the literals of several values.
  pub record Types (vs : List Value) (s : Ty) : Type 0 where
    pub ts : List Ty
    pub printed : PrintedEach env vs ts
    pub w : Ty
    pub join : join_all ts ≡ Some w
    pub within : Within w s
    pub fits : AreFit (of_list vs)

  types-each : (vs : List Value) (s : Ty) → EachHas vs s →
      (ts : List Ty) × PrintedEach env vs ts × EachWithin ts s × AreFit (of_list vs)
  types-each [] s h = ([], tt, tt, (refl, tt))
  types-each (v ∷ vs) s h =
      let r = types-each vs s h.1 in
      (h.0.t ∷ r.0, (h.0.printed, r.1), (h.0.within, r.2), (and-both (parts_fit v) (all_parts_fit (of_list vs)) h.0.fits.0 r.3.0, (h.0.fits.1, r.3.1)))

  -- They have a type together.
  pub types-of : (vs : List Value) (s : Ty) → EachHas vs s → Types vs s
  types-of vs s h =
      let r = types-each vs s h in
      let j = join-all-within r.0 s r.2 in
      record { ts = r.0; printed = r.1; w = j.0; join = j.1; within = j.2; fits = r.3 }

  whole-each : (vs : List Value) (s : Ty) → EachWhole vs s →
      (ts : List Ty) × PrintedEach env vs ts × EachWithin ts s × AreFit (of_list vs) × ((ts ≡ []) ⊎ SomeParts ts)
  whole-each [] s h = ([], tt, tt, (refl, tt), inl refl)
  whole-each (v ∷ vs) s h =
      let r = whole-each vs s h.1 in (
        h.0.t ∷ r.0,
        (h.0.printed, r.1),
        (h.0.within, r.2),
        (and-both (parts_fit v) (all_parts_fit (of_list vs)) h.0.fits.0 r.3.0, (h.0.fits.1, r.3.1)),
        inr (inl h.0.parts),
      )

  parts-or-none : (ts : List Ty) (w : Ty) → join_all ts ≡ Some w → (ts ≡ []) ⊎ SomeParts ts → (w ≡ any_ty) ⊎ (has_parts w ≡ true)
  parts-or-none ts w j (inl e) = let z : Some w ≡ Some any_ty = sym j ∙ ap join_all e in inl cc
  parts-or-none ts w j (inr k) = inr (join-all-has-parts ts w j k)

  -- Where each has parts, the type together has parts, or says nothing.
  pub whole-types : (vs : List Value) (s : Ty) → EachWhole vs s → (t : Types vs s) × ((t.w ≡ any_ty) ⊎ (has_parts t.w ≡ true))
  whole-types vs s h =
      let r = whole-each vs s h in
      let j = join-all-within r.0 s r.2 in
      (record { ts = r.0; printed = r.1; w = j.0; join = j.1; within = j.2; fits = r.3 }, parts-or-none r.0 j.0 j.1 r.4)

  -- ---- sets and multisets

  pub set-has : (xs : Values) (s : Ty) → rises itself (to_list xs) ≡ true → EachHas (to_list xs) s →
      HasWhole (node a_set xs) (compound1 a_set s)
  set-has xs s r h =
      let t = types-of (to_list xs) s h in
      whole-at (set_of (to_list xs)) (node a_set xs) (compound1 a_set t.w) (compound1 a_set s)
      (set-literal-printed env (to_list xs) t.ts t.printed (compound1 a_set t.w) (ap (option_map (compound1 a_set)) t.join))
      (ap (λ l. node a_set (of_list l)) (sorted_once-itself (to_list xs) r) ∙ ap (node a_set) (of_list-to_list xs))
      (refl, (t.within, tt)) (subst AreFit (of_list-to_list xs) t.fits) refl

  pub mset-has : (xs : Values) (s : Ty) → rises_weakly (to_list xs) ≡ true → EachHas (to_list xs) s →
      HasWhole (node a_mset xs) (compound1 a_mset s)
  mset-has xs s r h =
      let t = types-of (to_list xs) s h in
      whole-at (mset_of (to_list xs)) (node a_mset xs) (compound1 a_mset t.w) (compound1 a_mset s)
      (mset-literal-printed env (to_list xs) t.ts t.printed (compound1 a_mset t.w) (ap (option_map (compound1 a_mset)) t.join))
      (ap (λ l. node a_mset (of_list l)) (sorted-itself (to_list xs) r) ∙ ap (node a_mset) (of_list-to_list xs))
      (refl, (t.within, tt)) (subst AreFit (of_list-to_list xs) t.fits) refl

  -- ---- values each of a type of its own

  -- Each value has such a literal for its type.
  abbrev pub AllHave : Values → Tys → Type 0
  AllHave nil no_tys = Unit {0}
  AllHave (cons v vs) (more_tys s ss) = HasLiteral v s × AllHave vs ss
  AllHave vs ss = ⊥

  all-types : (vs : Values) (ss : Tys) → AllHave vs ss →
      (ts : List Ty) × PrintedEach env (to_list vs) ts × AllWithin (tys_of ts) ss × AreFit vs
  all-types nil no_tys h = ([], tt, tt, (refl, tt))
  all-types nil (more_tys s ss) h = absurd h
  all-types (cons v vs) no_tys h = absurd h
  all-types (cons v vs) (more_tys s ss) h =
      let r = all-types vs ss h.1 in
      (h.0.t ∷ r.0, (h.0.printed, r.1), (h.0.within, r.2), (and-both (parts_fit v) (all_parts_fit vs) h.0.fits.0 r.3.0, (h.0.fits.1, r.3.1)))

  some-of : (vs : Values) (s : Ty) (ss : Tys) → AllHave vs (more_tys s ss) → some_values vs ≡ true
  some-of nil s ss h = absurd h
  some-of (cons v vs) s ss h = refl

  has-some : (ts : List Ty) (k : Kind) (s : Ty) (ss : Tys) → AllWithin (tys_of ts) (more_tys s ss) → has_parts (compound k (tys_of ts)) ≡ true
  has-some [] k s ss h = absurd h
  has-some (t ∷ ts) k s ss h = refl

  -- A tuple of one or more.
  pub tuple-has : (vs : Values) (s : Ty) (ss : Tys) → AllHave vs (more_tys s ss) → HasWhole (tuple vs) (compound a_tuple (more_tys s ss))
  tuple-has vs s ss h =
      let r = all-types vs (more_tys s ss) h in
      whole-at (tuple (of_list (to_list vs))) (tuple vs) (compound a_tuple (tys_of r.0)) (compound a_tuple (more_tys s ss))
      (tuple-literal-printed env (to_list vs) r.0 r.1) (ap (node a_tuple) (of_list-to_list vs))
      (refl, all-within-parts a_tuple (tys_of r.0) (more_tys s ss) r.2)
      (tuple-fits vs (some-of vs s ss h) r.3) (has-some r.0 a_tuple s ss r.2)
    where
      tuple-fits : (vs : Values) → some_values vs ≡ true → AreFit vs → IsFit (tuple vs)
      tuple-fits vs p q = (and-both (some_values vs) (all_parts_fit vs) p q.0, q.1)

  -- ---- records

  zip-values : (fs : List Text) (ds : Doms) (vs : Values) → fit_domains fs ds ≡ true → AllHave vs (types_of_doms ds) →
      (keys (zip fs (to_list vs)) ≡ fs) × (map (λ (x : Text × Value). x.1) (zip fs (to_list vs)) ≡ to_list vs)
  zip-values [] no_doms nil e h = (refl, refl)
  zip-values [] no_doms (cons v vs) e h = absurd h
  zip-values [] (more_doms d ds) vs e h = cc
  zip-values (f ∷ fs) no_doms vs e h = cc
  zip-values (f ∷ fs) (more_doms d ds) nil e h = absurd h
  zip-values (f ∷ fs) (more_doms d ds) (cons v vs) e h =
      let r = zip-values fs ds vs e h.1 in (ap (λ l. f ∷ l) r.0, ap (λ l. v ∷ l) r.1)

  zip-types : (fs : List Text) (ds : Doms) (ts : List Ty) → fit_domains fs ds ≡ true → AllWithin (tys_of ts) (types_of_doms ds) →
      (keys (zip fs ts) ≡ fs) × (map (λ (x : Text × Ty). x.1) (zip fs ts) ≡ ts)
  zip-types [] no_doms [] e h = (refl, refl)
  zip-types [] no_doms (t ∷ ts) e h = absurd h
  zip-types [] (more_doms d ds) ts e h = cc
  zip-types (f ∷ fs) no_doms ts e h = cc
  zip-types (f ∷ fs) (more_doms d ds) [] e h = absurd h
  zip-types (f ∷ fs) (more_doms d ds) (t ∷ ts) e h =
      let r = zip-types fs ds ts e h.1 in (ap (λ l. f ∷ l) r.0, ap (λ l. t ∷ l) r.1)

  some-values : (ds : Doms) (vs : Values) → some_doms ds ≡ true → AllHave vs (types_of_doms ds) → some_values vs ≡ true
  some-values no_doms vs e h = cc
  some-values (more_doms d ds) nil e h = absurd h
  some-values (more_doms d ds) (cons v vs) e h = refl

  -- A record with its fields.
  pub record-has : (fs : List Text) (ds : Doms) (vs : Values) → are_fields fs ds ≡ true → AllHave vs (types_of_doms ds) →
      HasLiteral (node (a_record fs) vs) (compound (a_record fs) (types_of_doms ds))
  record-has fs ds vs e h =
      let a = and-left (some_doms ds && are_name_tokens fs && fit_domains fs ds && names_rise fs) (all_distinct fs) e in
      let b = and-left (some_doms ds && are_name_tokens fs && fit_domains fs ds) (names_rise fs) a in
      let c = and-left (some_doms ds && are_name_tokens fs) (fit_domains fs ds) b in
      let fit = and-right (some_doms ds && are_name_tokens fs) (fit_domains fs ds) b in
      let rise = and-right (some_doms ds && are_name_tokens fs && fit_domains fs ds) (names_rise fs) a in
      let r = all-types vs (types_of_doms ds) h in
      let x = zip-values fs ds vs fit h in
      let t = zip-types fs ds r.0 fit r.2 in
      let s : by_name (zip fs (to_list vs)) ≡ zip fs (to_list vs) = by-name-itself (zip fs (to_list vs)) (ap names_rise x.0 ∙ rise) in
      let u : by_name (zip fs r.0) ≡ zip fs r.0 = by-name-itself (zip fs r.0) (ap names_rise t.0 ∙ rise) in
      let ty : record_ty (by_name (zip fs r.0)) ≡ compound (a_record fs) (tys_of r.0) =
      ap record_ty u ∙ ap (λ k. compound (a_record k) (tys_of (map (λ (f : Text × Ty). f.1) (zip fs r.0)))) t.0
      ∙ ap (λ l. compound (a_record fs) (tys_of l)) t.1 in
      literal-at (record_value (by_name (zip fs (to_list vs)))) (node (a_record fs) vs) (compound (a_record fs) (tys_of r.0))
      (compound (a_record fs) (types_of_doms ds))
      (subst (Printed env (record_value (by_name (zip fs (to_list vs))))) ty
      (record-literal-printed env fs (to_list vs) r.0
      (and-right (some_doms ds && are_name_tokens fs && fit_domains fs ds && names_rise fs) (all_distinct fs) e) r.1))
      (ap record_value s ∙ ap (λ k. node (a_record k) (of_list (map (λ (f : Text × Value). f.1) (zip fs (to_list vs))))) x.0
      ∙ ap (λ l. node (a_record fs) (of_list l)) x.1 ∙ ap (node (a_record fs)) (of_list-to_list vs))
      (refl, all-within-parts (a_record fs) (tys_of r.0) (types_of_doms ds) r.2) (
        and-both (some_values vs && are_name_tokens fs) (all_parts_fit vs)
            (and-both (some_values vs) (are_name_tokens fs) (some-values ds vs (and-left (some_doms ds) (are_name_tokens fs) c) h)
            (and-right (some_doms ds) (are_name_tokens fs) c)) r.3.0,
        r.3.1,
      )
