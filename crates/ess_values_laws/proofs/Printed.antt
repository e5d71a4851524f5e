-- What printing keeps of a value that a literal has: its literal has it again, and a type that says no more.
use Rattle.std.proofs.Common.{◌≡◌, refl, sym, ap, ◌∙◌, subst, true, List, [], ◌∷◌, Some, option_map, ◌⊎◌, inl, inr}
use Rattle.ess_semantics.specs.Lists.{and_then, all_some}
use Rattle.ess_semantics.specs.Values.{Value, of_list}
use Rattle.ess_semantics.specs.Types.{Ty, tys_of, join_all}
use Rattle.ess_semantics.specs.Meaning.{Env}
use Rattle.ess_semantics.specs.Literals.{type_of_literal, types_of_literals, value_of_literal, values_of_literals}
use Rattle.ess_semantics.proofs.Orders.{order_total}
use Rattle.ess_semantics.proofs.Sorting.{Has}
use Rattle.ess_grammar.specs.ValueTexts.{literal_of, literals_of}
use Rattle.ess_values_laws.specs.ItemNames.{item_name}
use Rattle.ess_values_laws.proofs.TypeOrder.{Within, AllWithin, within-on}
use Rattle.ess_values_laws.proofs.JoinedTypes.{EachWithin, has_parts, SomeParts, join-all-says, join-all-within, some-has-parts, join-all-has-parts}

module _ (env : Env) where
  -- v's literal has this type
  abbrev pub HasType : Value → Ty → Type 0
  HasType v u = type_of_literal (literal_of (item_name env.types) v) env ≡ Some u

  -- v's literal has the value v
  abbrev pub HasItself : Value → Type 0
  HasItself v = value_of_literal (literal_of (item_name env.types) v) env ≡ Some v

  -- v, which a literal of type t has, is printed as a literal that has it, of a type that says no more
  pub record Printed (v : Value) (t : Ty) : Type 0 where
    pub u : Ty
    pub typed : HasType v u
    pub valued : HasItself v
    pub within : Within u t
    pub parts : has_parts t ≡ true → has_parts u ≡ true

  -- The same of each value with its type.
  abbrev pub PrintedEach : List Value → List Ty → Type 0
  PrintedEach [] [] = Unit {0}
  PrintedEach (v ∷ vs) (t ∷ ts) = Printed v t × PrintedEach vs ts
  PrintedEach vs ts = ⊥

  -- The literals of these values have these types.
  abbrev pub HaveTypes : List Value → List Ty → Type 0
  HaveTypes vs us = all_some (types_of_literals (literals_of (item_name env.types) (of_list vs)) env) ≡ Some us

  -- The literals of these values have these values.
  abbrev pub HaveThemselves : List Value → Type 0
  HaveThemselves vs = all_some (values_of_literals (literals_of (item_name env.types) (of_list vs)) env) ≡ Some vs

  have-types : (v : Value) (vs : List Value) (u : Ty) (us : List Ty) → HasType v u → HaveTypes vs us → HaveTypes (v ∷ vs) (u ∷ us)
  have-types v vs u us p q =
      ap (λ o. and_then o (λ x. option_map (λ xs. x ∷ xs) (all_some (types_of_literals (literals_of (item_name env.types) (of_list vs)) env)))) p
      ∙ ap (option_map (λ xs. u ∷ xs)) q

  have-values : (v : Value) (vs : List Value) → HasItself v → HaveThemselves vs → HaveThemselves (v ∷ vs)
  have-values v vs p q =
      ap (λ o. and_then o (λ x. option_map (λ xs. x ∷ xs) (all_some (values_of_literals (literals_of (item_name env.types) (of_list vs)) env)))) p
      ∙ ap (option_map (λ xs. v ∷ xs)) q

  -- ---- values in their order

  -- The literals of the values, in their order, have types within these.
  pub record InOrder (vs : List Value) (ts : List Ty) : Type 0 where
    pub us : List Ty
    pub types : HaveTypes vs us
    pub values : HaveThemselves vs
    pub within : AllWithin (tys_of us) (tys_of ts)

  pub in-order : (vs : List Value) (ts : List Ty) → PrintedEach vs ts → InOrder vs ts
  in-order [] [] h = record { us = []; types = refl; values = refl; within = tt }
  in-order [] (t ∷ ts) h = absurd h
  in-order (v ∷ vs) [] h = absurd h
  in-order (v ∷ vs) (t ∷ ts) h =
      let p = h.0 in
      let r = in-order vs ts h.1 in
      record { us = p.u ∷ r.us; types = have-types v vs p.u r.us p.typed r.types; values = have-values v vs p.valued r.values; within = (p.within, r.within) }

  -- ---- values in another order

  -- v's literal has v, and a type within s
  abbrev Reads : Value → Ty → Type 0
  Reads v s = (u : Ty) × HasType v u × HasItself v × Within u s

  abbrev EachReads : List Value → Ty → Type 0
  EachReads [] s = Unit {0}
  EachReads (v ∷ vs) s = Reads v s × EachReads vs s

  -- one of the values has a literal whose type has parts
  abbrev OneHasParts : List Value → Type 0
  OneHasParts vs = (v : Value) × Has order_total vs v × ((u : Ty) × HasType v u × (has_parts u ≡ true))

  -- The literals of the values, whatever their order, have a type together, within s.
  pub record Together (vs : List Value) (s : Ty) : Type 0 where
    pub us : List Ty
    pub types : HaveTypes vs us
    pub values : HaveThemselves vs
    pub w : Ty
    pub join : join_all us ≡ Some w
    pub within : Within w s
    pub parts : has_parts s ≡ true → has_parts w ≡ true

  reads-each : (xs : List Value) (ts : List Ty) (s : Ty) → PrintedEach xs ts → EachWithin ts s → (x : Value) → Has order_total xs x → Reads x s
  reads-each [] ts s p q x h = absurd h
  reads-each (y ∷ ys) [] s p q x h = absurd p
  reads-each (y ∷ ys) (t ∷ ts) s p q x (inl e) =
      let r = p.0 in subst (λ z. Reads z s) e (r.u, r.typed, r.valued, within-on r.u t s r.within q.0)
  reads-each (y ∷ ys) (t ∷ ts) s p q x (inr h) = reads-each ys ts s p.1 q.1 x h

  each-reads : (ys : List Value) (s : Ty) → ((y : Value) → Has order_total ys y → Reads y s) → EachReads ys s
  each-reads [] s f = tt
  each-reads (y ∷ ys) s f = (f y (inl refl), each-reads ys s (λ z h. f z (inr h)))

  one-has-parts : (xs : List Value) (ts : List Ty) → PrintedEach xs ts → SomeParts ts → OneHasParts xs
  one-has-parts [] [] p s = absurd s
  one-has-parts [] (t ∷ ts) p s = absurd p
  one-has-parts (x ∷ xs) [] p s = absurd p
  one-has-parts (x ∷ xs) (t ∷ ts) p (inl e) = let r = p.0 in (x, inl refl, (r.u, r.typed, r.parts e))
  one-has-parts (x ∷ xs) (t ∷ ts) p (inr s) = let r = one-has-parts xs ts p.1 s in (r.0, inr r.1, r.2)

  types-of-each : (ys : List Value) (s : Ty) → EachReads ys s → (us : List Ty) × HaveTypes ys us × HaveThemselves ys × EachWithin us s
  types-of-each [] s h = ([], refl, refl, tt)
  types-of-each (y ∷ ys) s h =
      let p = h.0 in
      let r = types-of-each ys s h.1 in
      (p.0 ∷ r.0, have-types y ys p.0 r.0 p.1 r.1, have-values y ys p.2 r.2, (p.3, r.3))

  parts-among : (ys : List Value) (us : List Ty) (s : Ty) → EachReads ys s → HaveTypes ys us → OneHasParts ys → SomeParts us
  parts-among [] us s r q h = absurd h.1
  parts-among (y ∷ ys) us s r q h =
      let o = types-of-each ys s r.1 in
      let p = r.0 in
      let e : p.0 ∷ o.0 ≡ us = let f = sym (have-types y ys p.0 o.0 p.1 o.1) ∙ q in cc in
      subst SomeParts e (go h.1 (parts-among ys o.0 s r.1 o.1))
    where
      go : (y ≡ h.0) ⊎ Has order_total ys h.0 → (OneHasParts ys → SomeParts (types-of-each ys s r.1).0) → SomeParts ((r.0).0 ∷ (types-of-each ys s r.1).0)
      go (inl e) ih =
          let f : (r.0).0 ≡ (h.2).0 = let g = sym (r.0).1 ∙ ap (λ z. type_of_literal (literal_of (item_name env.types) z) env) e ∙ (h.2).1 in cc in
          inl (ap has_parts f ∙ (h.2).2)
      go (inr k) ih = inr (ih (h.0, k, h.2))

  pub together : (xs : List Value) (ts : List Ty) (s : Ty) → PrintedEach xs ts → join_all ts ≡ Some s → (ys : List Value) →
      ((x : Value) → Has order_total xs x → Has order_total ys x) → ((y : Value) → Has order_total ys y → Has order_total xs y) → Together ys s
  together xs ts s p q ys f g =
      let all = reads-each xs ts s p (join-all-says ts s q) in
      let each = each-reads ys s (λ y h. all y (g y h)) in
      let r = types-of-each ys s each in
      let w = join-all-within r.0 s r.3 in
      record {
        us = r.0;
        types = r.1;
        values = r.2;
        w = w.0;
        join = w.1;
        within = w.2;
        parts = λ e. let o = one-has-parts xs ts p (some-has-parts ts s q e) in join-all-has-parts r.0 w.0 w.1 (parts-among ys r.0 s each r.1 (o.0, f o.0 o.1, o.2));
      }
