-- Bounds that are built of numbers, and of names or cells that are numbers: each is flat and as simple as can be, and has a value.
use Rattle.std.proofs.Common.{◌≡◌, refl, sym, ap, ◌∙◌, subst, Bool, true, false, ◌&&◌, List, [], ◌∷◌, ℤ, Option, Some, None}
use Rattle.ess_semantics.specs.declared.words.Op1.{Op1}
use Rattle.ess_semantics.specs.declared.words.Op2.{Op2}
use Rattle.ess_semantics.specs.Lists.{and_then}
use Rattle.ess_semantics.specs.Values.{Text, Value, number}
use Rattle.ess_semantics.specs.Names.{look}
use Rattle.ess_semantics.specs.Trees.{Ends, one_value, both_ends, low_end, high_end, unary, binary, Ex, Exs, number_ex, name_ex, cell_ex, no_exs, more_exs, ex1, ex2}
use Rattle.ess_semantics.specs.Domains.{Span}
use Rattle.ess_semantics.specs.Operators.{value_of_node, false_where_undefined}
use Rattle.ess_semantics.specs.Meaning.{Env, meaning, meanings, as_int, with_span, spans_of}
use Rattle.ess_semantics.specs.Meets.{Meets, MeetsAll}
use Rattle.ess_semantics.specs.Plans.{Plan}
use Rattle.ess_semantics.specs.Models.{scalar_cell, cell_for, with_cells, all_with_cells}
use Rattle.ess_semantics.proofs.Tests.{and-left, and-right}
use Rattle.ess_simplify_laws.specs.Simplifying.{said, outcome, left, simplified}
use Rattle.ess_flat_laws.specs.Flat.{Flat, negative, absolute, sum, difference, product, number as number_is, named, cell, one, two, none_marked, is_choice}
use Rattle.ess_flat_models_laws.proofs.FlatValues.{AllNumbers}
use Rattle.ess_flat_models_laws.specs.FlatSpecifications.{is_of_numbers, is_reckoned, are_ranges}

no : false ≡ true → ⊥
no q = cc

-- A number that is built of numbers, and of names and cells that are numbers.
pub data Reckoned (g c : Text → Option Bool) : Ex → Type 0 where
  digits : {k : ℤ} → Reckoned g c (number_ex k)
  of_name : {a : Text} → g a ≡ Some false → Reckoned g c (name_ex a)
  of_cell : {n : Text} → c n ≡ Some false → Reckoned g c (cell_ex false n no_exs)
  minus : {x : Ex} → Reckoned g c x → Reckoned g c (ex1 false Op1.Minus x)
  bar : {x : Ex} → Reckoned g c x → Reckoned g c (ex1 false Op1.Bar x)
  plus : {x y : Ex} → Reckoned g c x → Reckoned g c y → Reckoned g c (ex2 false Op2.Plus x y)
  less : {x y : Ex} → Reckoned g c x → Reckoned g c y → Reckoned g c (ex2 false Op2.Minus x y)
  times : {x y : Ex} → Reckoned g c x → Reckoned g c y → Reckoned g c (ex2 false Op2.Times x y)

number-mark : (o : Option Bool) → is_of_numbers o ≡ true → o ≡ Some false
number-mark (Some false) h = refl
number-mark (Some true) h = cc
number-mark None h = cc

-- The test says which these are.
pub reckoned : (g : Text → Option Bool) (e : Ex) → is_reckoned g e ≡ true → Reckoned g none_marked e
reckoned g (number_ex n) h = digits
reckoned g (name_ex a) h = of_name (number-mark (g a) h)
reckoned g (ex1 false Op1.Minus x) h = minus (reckoned g x h)
reckoned g (ex1 false Op1.Bar x) h = bar (reckoned g x h)
reckoned g (ex2 false Op2.Plus x y) h =
    plus (reckoned g x (and-left (is_reckoned g x) (is_reckoned g y) h)) (reckoned g y (and-right (is_reckoned g x) (is_reckoned g y) h))
reckoned g (ex2 false Op2.Minus x y) h =
    less (reckoned g x (and-left (is_reckoned g x) (is_reckoned g y) h)) (reckoned g y (and-right (is_reckoned g x) (is_reckoned g y) h))
reckoned g (ex2 false Op2.Times x y) h =
    times (reckoned g x (and-left (is_reckoned g x) (is_reckoned g y) h)) (reckoned g y (and-right (is_reckoned g x) (is_reckoned g y) h))
reckoned g e h = absurd (no h)

module _ (g c : Text → Option Bool) where
  abbrev K : Ex → Type 0
  K = Reckoned g c

  -- No condition chooses it.
  not-chosen : {e : Ex} → K e → is_choice Op2.Times e ≡ false
  not-chosen digits = refl
  not-chosen (of_name h) = refl
  not-chosen (of_cell h) = refl
  not-chosen (minus w) = refl
  not-chosen (bar w) = refl
  not-chosen (plus w v) = refl
  not-chosen (less w v) = refl
  not-chosen (times w v) = refl

  -- It is flat.
  pub reckoned-flat : {e : Ex} → K e → Flat g c e false
  reckoned-flat digits = number_is
  reckoned-flat (of_name h) = named h
  reckoned-flat (of_cell h) = cell h
  reckoned-flat (minus w) = one negative (reckoned-flat w)
  reckoned-flat (bar w) = one absolute (reckoned-flat w)
  reckoned-flat (plus w v) = two sum (reckoned-flat w) (reckoned-flat v) refl
  reckoned-flat (less w v) = two difference (reckoned-flat w) (reckoned-flat v) refl
  reckoned-flat (times w v) = two product (reckoned-flat w) (reckoned-flat v) (not-chosen w)

  -- It says no truth.
  unsaid : {e : Ex} → K e → said e ≡ None
  unsaid digits = refl
  unsaid (of_name h) = refl
  unsaid (of_cell h) = refl
  unsaid (minus w) = refl
  unsaid (bar w) = refl
  unsaid (plus w v) = refl
  unsaid (less w v) = refl
  unsaid (times w v) = refl

  two-simple : (o : Op2) (x y : Ex) → said x ≡ None → said y ≡ None → simplified x ≡ x → simplified y ≡ y →
      left false o x y (outcome o None None) ≡ ex2 false o x y → simplified (ex2 false o x y) ≡ ex2 false o x y
  two-simple o x y p q s t u =
      ap (λ z. left false o z (simplified y) (outcome o (said z) (said (simplified y)))) s
      ∙ ap (λ z. left false o x z (outcome o (said x) (said z))) t
      ∙ ap (λ r. left false o x y (outcome o r (said y))) p ∙ ap (λ r. left false o x y (outcome o None r)) q ∙ u

  -- It is as simple as can be.
  pub reckoned-simple : {e : Ex} → K e → simplified e ≡ e
  reckoned-simple digits = refl
  reckoned-simple (of_name h) = refl
  reckoned-simple (of_cell h) = refl
  reckoned-simple (minus w) = ap (ex1 false Op1.Minus) (reckoned-simple w)
  reckoned-simple (bar w) = ap (ex1 false Op1.Bar) (reckoned-simple w)
  reckoned-simple (plus {x = x} {y = y} w v) =
      two-simple Op2.Plus x y (unsaid w) (unsaid v) (reckoned-simple w) (reckoned-simple v) refl
  reckoned-simple (less {x = x} {y = y} w v) =
      two-simple Op2.Minus x y (unsaid w) (unsaid v) (reckoned-simple w) (reckoned-simple v) refl
  reckoned-simple (times {x = x} {y = y} w v) =
      two-simple Op2.Times x y (unsaid w) (unsaid v) (reckoned-simple w) (reckoned-simple v) refl

-- ---- its value

-- The value of an operator on numbers.
abbrev N : Op1 → Option Value → Option Value
N o p = false_where_undefined false (value_of_node (unary o) (p ∷ []))

abbrev B : Op2 → Option Value → Option Value → Option Value
B o p q = false_where_undefined false (value_of_node (binary o) (p ∷ q ∷ []))

module _ (g : Text → Option Bool) where
  abbrev G : Ex → Type 0
  G = Reckoned g none_marked

  no-cell : None ≡ Some false → ⊥
  no-cell h = cc

  -- Names that are numbers have values.
  abbrev pub Numbered : Env → Type 0
  Numbered env = (a : Text) → g a ≡ Some false → (n : ℤ) × (look env.vals a ≡ Some (number n))

  -- So it has one.
  pub reckoned-value : (env : Env) → Numbered env → {e : Ex} → G e → (n : ℤ) × (meaning e env ≡ Some (number n))
  reckoned-value env q (digits {k = k}) = (k, refl)
  reckoned-value env q (of_name {a = a} h) = q a h
  reckoned-value env q (of_cell h) = absurd (no-cell h)
  reckoned-value env q (minus w) = let r = reckoned-value env q w in (_, ap (N Op1.Minus) r.1)
  reckoned-value env q (bar w) = let r = reckoned-value env q w in (_, ap (N Op1.Bar) r.1)
  reckoned-value env q (plus {x = x} {y = y} w v) =
      let r = reckoned-value env q w in let s = reckoned-value env q v in
      (_, ap (λ p. B Op2.Plus p (meaning y env)) r.1 ∙ ap (B Op2.Plus (Some (number r.0))) s.1)
  reckoned-value env q (less {x = x} {y = y} w v) =
      let r = reckoned-value env q w in let s = reckoned-value env q v in
      (_, ap (λ p. B Op2.Minus p (meaning y env)) r.1 ∙ ap (B Op2.Minus (Some (number r.0))) s.1)
  reckoned-value env q (times {x = x} {y = y} w v) =
      let r = reckoned-value env q w in let s = reckoned-value env q v in
      (_, ap (λ p. B Op2.Times p (meaning y env)) r.1 ∙ ap (B Op2.Times (Some (number r.0))) s.1)

  module _ (Ps : List Plan) where
    -- In there cells hold what names are in env.
    abbrev pub Held : Env → Env → Type 0
    Held env there = (a : Text) → g a ≡ Some false → meaning (cell_for a (scalar_cell Ps a)) there ≡ look env.vals a

    -- Cells in the place of names leave its value.
    pub reckoned-cells : (env there : Env) → Held env there → {e : Ex} → G e → meaning (with_cells Ps e) there ≡ meaning e env
    reckoned-cells env there q digits = refl
    reckoned-cells env there q (of_name {a = a} h) = q a h
    reckoned-cells env there q (of_cell h) = absurd (no-cell h)
    reckoned-cells env there q (minus w) = ap (N Op1.Minus) (reckoned-cells env there q w)
    reckoned-cells env there q (bar w) = ap (N Op1.Bar) (reckoned-cells env there q w)
    reckoned-cells env there q (plus {x = x} {y = y} w v) =
        ap (λ p. B Op2.Plus p (meaning (with_cells Ps y) there)) (reckoned-cells env there q w)
        ∙ ap (B Op2.Plus (meaning x env)) (reckoned-cells env there q v)
    reckoned-cells env there q (less {x = x} {y = y} w v) =
        ap (λ p. B Op2.Minus p (meaning (with_cells Ps y) there)) (reckoned-cells env there q w)
        ∙ ap (B Op2.Minus (meaning x env)) (reckoned-cells env there q v)
    reckoned-cells env there q (times {x = x} {y = y} w v) =
        ap (λ p. B Op2.Times p (meaning (with_cells Ps y) there)) (reckoned-cells env there q w)
        ∙ ap (B Op2.Times (meaning x env)) (reckoned-cells env there q v)

    -- With cells it is such a number over cells.
    pub cells-reckoned : (c : Text → Option Bool) →
        ((a : Text) → g a ≡ Some false → (n : Text) × (scalar_cell Ps a ≡ Some (false, n)) × (c n ≡ Some false)) → {e : Ex} → G e →
        Reckoned none_marked c (with_cells Ps e)
    cells-reckoned c q digits = digits
    cells-reckoned c q (of_name {a = a} h) =
        let r = q a h in subst (λ o. Reckoned none_marked c (cell_for a o)) (sym r.1) (of_cell r.2)
    cells-reckoned c q (of_cell h) = absurd (no-cell h)
    cells-reckoned c q (minus w) = minus (cells-reckoned c q w)
    cells-reckoned c q (bar w) = bar (cells-reckoned c q w)
    cells-reckoned c q (plus w v) = plus (cells-reckoned c q w) (cells-reckoned c q v)
    cells-reckoned c q (less w v) = less (cells-reckoned c q w) (cells-reckoned c q v)
    cells-reckoned c q (times w v) = times (cells-reckoned c q w) (cells-reckoned c q v)

    -- It has the numbers that it had.
    pub reckoned-numbers : (Q : ℤ → Type 0) {e : Ex} → G e → AllNumbers Q e → AllNumbers Q (with_cells Ps e)
    reckoned-numbers Q digits n = n
    reckoned-numbers Q (of_name {a = a} h) n = numbers-name Q a (scalar_cell Ps a)
      where
        numbers-name : (Q : ℤ → Type 0) (a : Text) (o : Option (Bool × Text)) → AllNumbers Q (cell_for a o)
        numbers-name Q a None = tt
        numbers-name Q a (Some c) = tt
    reckoned-numbers Q (of_cell h) n = absurd (no-cell h)
    reckoned-numbers Q (minus w) n = (reckoned-numbers Q w n.0, tt)
    reckoned-numbers Q (bar w) n = (reckoned-numbers Q w n.0, tt)
    reckoned-numbers Q (plus w v) n = (reckoned-numbers Q w n.0, (reckoned-numbers Q v n.1.0, tt))
    reckoned-numbers Q (less w v) n = (reckoned-numbers Q w n.0, (reckoned-numbers Q v n.1.0, tt))
    reckoned-numbers Q (times w v) n = (reckoned-numbers Q w n.0, (reckoned-numbers Q v n.1.0, tt))

    meets-name : (a : Text) (o : Option (Bool × Text)) (env : Env) → Meets (cell_for a o) env
    meets-name a None env = tt
    meets-name a (Some c) env = tt

    -- It asks nothing of tables.
    reckoned-meets : {e : Ex} → G e → (env : Env) → Meets (with_cells Ps e) env
    reckoned-meets digits env = tt
    reckoned-meets (of_name {a = a} h) env = meets-name a (scalar_cell Ps a) env
    reckoned-meets (of_cell h) env = absurd (no-cell h)
    reckoned-meets (minus w) env = (reckoned-meets w env, tt)
    reckoned-meets (bar w) env = (reckoned-meets w env, tt)
    reckoned-meets (plus w v) env = (reckoned-meets w env, (reckoned-meets v env, tt))
    reckoned-meets (less w v) env = (reckoned-meets w env, (reckoned-meets v env, tt))
    reckoned-meets (times w v) env = (reckoned-meets w env, (reckoned-meets v env, tt))

  -- ---- bounds

  -- All of these are.
  abbrev pub AllReckoned : Exs → Type 0
  AllReckoned no_exs = Unit {0}
  AllReckoned (more_exs e es) = Reckoned g none_marked e × AllReckoned es

  -- The bounds of ranges of the class are.
  pub bounds-reckoned : (rs : List Ends) (es : Exs) → are_ranges g rs es ≡ true → AllReckoned es
  bounds-reckoned [] no_exs h = tt
  bounds-reckoned (one_value ∷ rs) (more_exs a es) h = (
    reckoned g a (and-left (is_reckoned g a) (are_ranges g rs es) h),
    bounds-reckoned rs es (and-right (is_reckoned g a) (are_ranges g rs es) h),
  )
  bounds-reckoned (both_ends ∷ rs) (more_exs a (more_exs b es)) h =
      let z = and-right (is_reckoned g a) (is_reckoned g b && are_ranges g rs es) h in (
        reckoned g a (and-left (is_reckoned g a) (is_reckoned g b && are_ranges g rs es) h),
        (
          reckoned g b (and-left (is_reckoned g b) (are_ranges g rs es) z),
          bounds-reckoned rs es (and-right (is_reckoned g b) (are_ranges g rs es) z),
        ),
      )
  bounds-reckoned (low_end ∷ rs) (more_exs a es) h = (
    reckoned g a (and-left (is_reckoned g a) (are_ranges g rs es) h),
    bounds-reckoned rs es (and-right (is_reckoned g a) (are_ranges g rs es) h),
  )
  bounds-reckoned (high_end ∷ rs) (more_exs a es) h = (
    reckoned g a (and-left (is_reckoned g a) (are_ranges g rs es) h),
    bounds-reckoned rs es (and-right (is_reckoned g a) (are_ranges g rs es) h),
  )
  bounds-reckoned rs es h = absurd (no h)

  -- They are ranges in an env in which names are numbers.
  pub ranges-are : (env : Env) → Numbered env → (rs : List Ends) (es : Exs) → are_ranges g rs es ≡ true →
      (ss : List Span) × (spans_of rs (meanings es env) ≡ Some ss)
  ranges-are env q [] no_exs h = ([], refl)
  ranges-are env q (one_value ∷ rs) (more_exs a es) h =
      let v = reckoned-value env q (reckoned g a (and-left (is_reckoned g a) (are_ranges g rs es) h)) in
      let r = ranges-are env q rs es (and-right (is_reckoned g a) (are_ranges g rs es) h) in (
        record { low = Some v.0; high = Some v.0 } ∷ r.0,
        ap (λ o. and_then (as_int o) (λ n. with_span (Some n) (Some n) (spans_of rs (meanings es env)))) v.1
            ∙ ap (with_span (Some v.0) (Some v.0)) r.1,
      )
  ranges-are env q (both_ends ∷ rs) (more_exs a (more_exs b es)) h =
      let z = and-right (is_reckoned g a) (is_reckoned g b && are_ranges g rs es) h in
      let v = reckoned-value env q (reckoned g a (and-left (is_reckoned g a) (is_reckoned g b && are_ranges g rs es) h)) in
      let w = reckoned-value env q (reckoned g b (and-left (is_reckoned g b) (are_ranges g rs es) z)) in
      let r = ranges-are env q rs es (and-right (is_reckoned g b) (are_ranges g rs es) z) in (
        record { low = Some v.0; high = Some w.0 } ∷ r.0,
        ap (λ o. and_then (as_int o) (λ n. and_then (as_int (meaning b env)) (λ m. with_span (Some n) (Some m)
            (spans_of rs (meanings es env))))) v.1
            ∙ ap (λ o. and_then (as_int o) (λ m. with_span (Some v.0) (Some m) (spans_of rs (meanings es env)))) w.1
            ∙ ap (with_span (Some v.0) (Some w.0)) r.1,
      )
  ranges-are env q (low_end ∷ rs) (more_exs a es) h =
      let v = reckoned-value env q (reckoned g a (and-left (is_reckoned g a) (are_ranges g rs es) h)) in
      let r = ranges-are env q rs es (and-right (is_reckoned g a) (are_ranges g rs es) h) in (
        record { low = Some v.0; high = None } ∷ r.0,
        ap (λ o. and_then (as_int o) (λ n. with_span (Some n) None (spans_of rs (meanings es env)))) v.1
            ∙ ap (with_span (Some v.0) None) r.1,
      )
  ranges-are env q (high_end ∷ rs) (more_exs a es) h =
      let v = reckoned-value env q (reckoned g a (and-left (is_reckoned g a) (are_ranges g rs es) h)) in
      let r = ranges-are env q rs es (and-right (is_reckoned g a) (are_ranges g rs es) h) in (
        record { low = None; high = Some v.0 } ∷ r.0,
        ap (λ o. and_then (as_int o) (λ n. with_span None (Some n) (spans_of rs (meanings es env)))) v.1
            ∙ ap (with_span None (Some v.0)) r.1,
      )
  ranges-are env q rs es h = absurd (no h)

  -- With cells they have the same values, and ask nothing of tables.
  pub bounds-with-cells : (Ps : List Plan) (env there : Env) → Held Ps env there → (es : Exs) → AllReckoned es →
      meanings (all_with_cells Ps es) there ≡ meanings es env
  bounds-with-cells Ps env there q no_exs w = refl
  bounds-with-cells Ps env there q (more_exs e es) w =
      ap (λ o. o ∷ meanings (all_with_cells Ps es) there) (reckoned-cells Ps env there q w.0)
      ∙ ap (λ l. meaning e env ∷ l) (bounds-with-cells Ps env there q es w.1)

  pub bounds-meet : (Ps : List Plan) (es : Exs) → AllReckoned es → (env : Env) → MeetsAll false (all_with_cells Ps es) env
  bounds-meet Ps no_exs w env = tt
  bounds-meet Ps (more_exs e es) w env = (reckoned-meets Ps w.0 env, bounds-meet Ps es w.1 env)
