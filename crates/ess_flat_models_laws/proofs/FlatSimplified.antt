-- Simplified flat trees: flat, of the same value, with no other numbers.
use Rattle.std.proofs.Common.{◌≡◌, refl, sym, ap, ◌∙◌, Bool, true, false, ◌&&◌, ◌||◌, not, if◌then◌else◌, [], ◌∷◌, ℤ, Option, Some, None}
use Rattle.ess_semantics.specs.declared.words.Op1.{Op1}
use Rattle.ess_semantics.specs.declared.words.Op2.{Op2}
use Rattle.ess_semantics.specs.declared.words.Fun.{Fun}
use Rattle.ess_semantics.specs.Values.{Text, Value, truth}
use Rattle.ess_semantics.specs.Trees.{unary, binary, word, Ex, truth_ex, cell_ex, no_exs, ex1, ex2}
use Rattle.ess_semantics.specs.Operators.{value_of_node, false_where_undefined}
use Rattle.ess_semantics.specs.Meaning.{Env, meaning}
use Rattle.ess_simplify_laws.specs.Simplifying.{said, denied as undenied, outcome, left, simplified}
use Rattle.ess_flat_laws.specs.Flat.{OneOp, denied, negative, absolute, TwoOp, both, either, implied, agreeing, equal, unequal, below, at_most, above, at_least, sum, difference, product, is_choice, Flat, number as number_is, truth as truth_is, named, cell, one, two, chosen, none_marked}
use Rattle.ess_flat_models_laws.proofs.FlatValues.{Marked, a_truth, AllNumbers, flat-value}

-- The value of `!`, and that of an operator on two truth values.
abbrev N : Option Value → Option Value
N p = false_where_undefined true (value_of_node (unary Op1.Not) (p ∷ []))

abbrev B : Bool → Op2 → Option Value → Option Value → Option Value
B b o p q = false_where_undefined b (value_of_node (binary o) (p ∷ q ∷ []))

twice : (v : Value) → Marked true v → Some v ≡ N (N (Some v))
twice v (a_truth {b = true}) = refl
twice v (a_truth {b = false}) = refl

and-yes : (i : Bool) → i ≡ i && true
and-yes true = refl
and-yes false = refl

and-no : (i : Bool) → false ≡ i && false
and-no true = refl
and-no false = refl

or-yes : (i : Bool) → true ≡ i || true
or-yes true = refl
or-yes false = refl

or-no : (i : Bool) → i ≡ i || false
or-no true = refl
or-no false = refl

iff-yes : (i : Bool) → i ≡ (if i then true else not true)
iff-yes true = refl
iff-yes false = refl

iff-no : (i : Bool) → not i ≡ (if i then false else not false)
iff-no true = refl
iff-no false = refl

module _ (cells : Text → Option Bool) (env : Env)
    (valued : (n : Text) (b : Bool) → cells n ≡ Some b → (v : Value) × Marked b v × (meaning (cell_ex b n no_exs) env ≡ Some v)) where
  abbrev F : Ex → Bool → Type 0
  F = Flat none_marked cells

  -- What is left of a tree.
  pub record Simpler (old new : Ex) (m : Bool) : Type 1 where
    pub flat : F new m
    pub means : meaning new env ≡ meaning old env
    pub numbers : (Q : ℤ → Type 0) → AllNumbers Q old → AllNumbers Q new
    pub choice : is_choice Op2.Times old ≡ false → is_choice Op2.Times new ≡ false

  -- A truth value is no chosen number.
  no-choice : {e : Ex} {m : Bool} → F e m → m ≡ true → is_choice Op2.Times e ≡ false
  no-choice number_is q = refl
  no-choice truth_is q = refl
  no-choice (named h) q = refl
  no-choice (cell h) q = refl
  no-choice (one w f) q = refl
  no-choice (two w f h c) q = refl
  no-choice (chosen f) q = cc

  truth-left : {old new : Ex} → F new true → meaning new env ≡ meaning old env → ((Q : ℤ → Type 0) → AllNumbers Q old → AllNumbers Q new)
      → Simpler old new true
  truth-left f e n = record { flat = f; means = e; numbers = n; choice = λ c. no-choice f refl }

  truth-value : {e : Ex} → F e true → (i : Bool) × (meaning e env ≡ Some (truth i))
  truth-value {e} f = let v = flat-value cells env valued f in go v.0 v.1 v.2
    where
      go : (v : Value) → Marked true v → meaning e env ≡ Some v → (i : Bool) × (meaning e env ≡ Some (truth i))
      go v (a_truth {b = b}) q = (b, q)

  said-value : (e : Ex) (v : Bool) → said e ≡ Some v → meaning e env ≡ Some (truth v)
  said-value (truth_ex u) v q = ap (λ o. elim o [ None ↦ None | Some w ↦ Some (truth w) ]) q
  said-value e v q = cc

  -- `!` of a flat truth value.
  denied-is : {y : Ex} → F y true → Simpler (ex1 true Op1.Not y) (undenied true y) true
  denied-is truth_is = truth-left truth_is refl (λ Q n. tt)
  denied-is (named h) = truth-left (one denied (named h)) refl (λ Q n. n)
  denied-is (cell h) = truth-left (one denied (cell h)) refl (λ Q n. n)
  denied-is (one {x = x} denied f) =
      let v = flat-value cells env valued f in
      truth-left f (v.2 ∙ twice v.0 v.1 ∙ ap (λ p. N (N p)) (sym v.2)) (λ Q n. n.0.0)
  denied-is (two w f h c) = truth-left (one denied (two w f h c)) refl (λ Q n. n)

  -- The value of an operator on two truth values, from theirs.
  at : (x y : Ex) (o : Op2) (i j : Bool) → meaning x env ≡ Some (truth i) → meaning y env ≡ Some (truth j) →
      B true o (Some (truth i)) (Some (truth j)) ≡ meaning (ex2 true o x y) env
  at x y o i j p q = ap (B true o (Some (truth i))) (sym q) ∙ ap (λ z. B true o z (meaning y env)) (sym p)

  both-is : {x y : Ex} → F x true → F y true → (p q : Option Bool) → said x ≡ p → said y ≡ q →
      Simpler (ex2 true Op2.And x y) (left true Op2.And x y (outcome Op2.And p q)) true
  both-is {x} {y} f h (Some true) q a b =
      let j = truth-value h in
      truth-left h (j.1 ∙ at x y Op2.And true j.0 (said-value x true a) (j.1)) (λ Q n. n.1.0)
  both-is {x} {y} f h (Some false) q a b =
      let j = truth-value h in
      truth-left truth_is (refl ∙ at x y Op2.And false j.0 (said-value x false a) (j.1)) (λ Q n. tt)
  both-is {x} {y} f h None (Some true) a b =
      let i = truth-value f in
      truth-left f (i.1 ∙ ap (λ z. Some (truth z)) (and-yes i.0) ∙ at x y Op2.And i.0 true (i.1) (said-value y true b)) (λ Q n. n.0)
  both-is {x} {y} f h None (Some false) a b =
      let i = truth-value f in
      truth-left truth_is (refl ∙ ap (λ z. Some (truth z)) (and-no i.0) ∙ at x y Op2.And i.0 false (i.1) (said-value y false b)) (λ Q n. tt)
  both-is f h None None a b = truth-left (two both f h refl) refl (λ Q n. n)

  either-is : {x y : Ex} → F x true → F y true → (p q : Option Bool) → said x ≡ p → said y ≡ q →
      Simpler (ex2 true Op2.Or x y) (left true Op2.Or x y (outcome Op2.Or p q)) true
  either-is {x} {y} f h (Some true) q a b =
      let j = truth-value h in
      truth-left truth_is (refl ∙ at x y Op2.Or true j.0 (said-value x true a) (j.1)) (λ Q n. tt)
  either-is {x} {y} f h (Some false) q a b =
      let j = truth-value h in
      truth-left h (j.1 ∙ at x y Op2.Or false j.0 (said-value x false a) (j.1)) (λ Q n. n.1.0)
  either-is {x} {y} f h None (Some true) a b =
      let i = truth-value f in
      truth-left truth_is (refl ∙ ap (λ z. Some (truth z)) (or-yes i.0) ∙ at x y Op2.Or i.0 true (i.1) (said-value y true b)) (λ Q n. tt)
  either-is {x} {y} f h None (Some false) a b =
      let i = truth-value f in
      truth-left f (i.1 ∙ ap (λ z. Some (truth z)) (or-no i.0) ∙ at x y Op2.Or i.0 false (i.1) (said-value y false b)) (λ Q n. n.0)
  either-is f h None None a b = truth-left (two either f h refl) refl (λ Q n. n)

  implied-is : {x y : Ex} → F x true → F y true → (p q : Option Bool) → said x ≡ p → said y ≡ q →
      Simpler (ex2 true Op2.Implies x y) (left true Op2.Implies x y (outcome Op2.Implies p q)) true
  implied-is {x} {y} f h (Some true) q a b =
      let j = truth-value h in
      truth-left h (j.1 ∙ at x y Op2.Implies true j.0 (said-value x true a) (j.1)) (λ Q n. n.1.0)
  implied-is {x} {y} f h (Some false) q a b =
      let j = truth-value h in
      truth-left truth_is (refl ∙ at x y Op2.Implies false j.0 (said-value x false a) (j.1)) (λ Q n. tt)
  implied-is {x} {y} f h None (Some true) a b =
      let i = truth-value f in
      truth-left truth_is (refl ∙ ap (λ z. Some (truth z)) (or-yes (not i.0)) ∙ at x y Op2.Implies i.0 true (i.1) (said-value y true b))
      (λ Q n. tt)
  implied-is {x} {y} f h None (Some false) a b =
      let i = truth-value f in
      let d = denied-is f in
      truth-left d.flat (d.means ∙ ap N (i.1) ∙ ap (λ z. Some (truth z)) (or-no (not i.0)) ∙ at x y Op2.Implies i.0 false (i.1)
      (said-value y false b)) (λ Q n. d.numbers Q (n.0, tt))
  implied-is f h None None a b = truth-left (two implied f h refl) refl (λ Q n. n)

  agreeing-is : {x y : Ex} → F x true → F y true → (p q : Option Bool) → said x ≡ p → said y ≡ q →
      Simpler (ex2 true Op2.Iff x y) (left true Op2.Iff x y (outcome Op2.Iff p q)) true
  agreeing-is {x} {y} f h (Some true) q a b =
      let j = truth-value h in
      truth-left h (j.1 ∙ at x y Op2.Iff true j.0 (said-value x true a) (j.1)) (λ Q n. n.1.0)
  agreeing-is {x} {y} f h (Some false) q a b =
      let j = truth-value h in
      let d = denied-is h in
      truth-left d.flat (d.means ∙ ap N (j.1) ∙ at x y Op2.Iff false j.0 (said-value x false a) (j.1)) (λ Q n. d.numbers Q (n.1.0, tt))
  agreeing-is {x} {y} f h None (Some true) a b =
      let i = truth-value f in
      truth-left f (i.1 ∙ ap (λ z. Some (truth z)) (iff-yes i.0) ∙ at x y Op2.Iff i.0 true (i.1) (said-value y true b)) (λ Q n. n.0)
  agreeing-is {x} {y} f h None (Some false) a b =
      let i = truth-value f in
      let d = denied-is f in
      truth-left d.flat (d.means ∙ ap N (i.1) ∙ ap (λ z. Some (truth z)) (iff-no i.0) ∙ at x y Op2.Iff i.0 false (i.1)
      (said-value y false b)) (λ Q n. d.numbers Q (n.0, tt))
  agreeing-is f h None None a b = truth-left (two agreeing f h refl) refl (λ Q n. n)

  -- ---- nodes on simplified operands

  one-left : {b m : Bool} {o : Op1} {x z : Ex} → OneOp b o m → Simpler x z m → b ≡ false → Simpler (ex1 b o x) (ex1 b o z) b
  one-left {b} {o = o} w s q = record {
    flat = one w s.flat;
    means = ap (λ p. false_where_undefined b (value_of_node (unary o) (p ∷ []))) s.means;
    numbers = λ Q n. (s.numbers Q n.0, tt);
    choice = λ c. refl;
  }

  two-left : {b m k : Bool} {o : Op2} {x y z u : Ex} → TwoOp b o m k → Simpler x z m → Simpler y u k → is_choice o z ≡ false →
      Simpler (ex2 b o x y) (ex2 b o z u) b
  two-left {b} {o = o} {x = x} {u = u} w s r c = record {
    flat = two w s.flat r.flat c;
    means = ap (λ p. B b o p (meaning u env)) s.means ∙ ap (B b o (meaning x env)) r.means;
    numbers = λ Q n. (s.numbers Q n.0, (r.numbers Q n.1.0, tt));
    choice = λ c. refl;
  }

  denied-left : {x z : Ex} → Simpler x z true → Simpler (ex1 true Op1.Not x) (ex1 true Op1.Not z) true
  denied-left s = truth-left (one denied s.flat) (ap N s.means) (λ Q n. (s.numbers Q n.0, tt))

  -- One behind the other.
  behind : {a b c : Ex} {m : Bool} → Simpler a b m → Simpler b c m → Simpler a c m
  behind s r = record {
    flat = r.flat;
    means = r.means ∙ s.means;
    numbers = λ Q n. r.numbers Q (s.numbers Q n);
    choice = λ c. r.choice (s.choice c);
  }

  -- A simplified flat tree.
  pub simpler : {e : Ex} {m : Bool} → F e m → Simpler e (simplified e) m
  simpler number_is = record { flat = number_is; means = refl; numbers = λ Q n. n; choice = λ c. c }
  simpler truth_is = record { flat = truth_is; means = refl; numbers = λ Q n. n; choice = λ c. c }
  simpler (named h) = record { flat = named h; means = refl; numbers = λ Q n. n; choice = λ c. c }
  simpler (cell h) = record { flat = cell h; means = refl; numbers = λ Q n. n; choice = λ c. c }
  simpler (one denied f) = let s = simpler f in behind (denied-left s) (denied-is s.flat)
  simpler (one negative f) = one-left negative (simpler f) refl
  simpler (one absolute f) = one-left absolute (simpler f) refl
  simpler (two {x = x} {y = y} both f h c) =
      let s = simpler f in
      let r = simpler h in
      behind (two-left both s r refl) (both-is s.flat r.flat (said (simplified x)) (said (simplified y)) refl refl)
  simpler (two {x = x} {y = y} either f h c) =
      let s = simpler f in
      let r = simpler h in
      behind (two-left either s r refl) (either-is s.flat r.flat (said (simplified x)) (said (simplified y)) refl refl)
  simpler (two {x = x} {y = y} implied f h c) =
      let s = simpler f in
      let r = simpler h in
      behind (two-left implied s r refl) (implied-is s.flat r.flat (said (simplified x)) (said (simplified y)) refl refl)
  simpler (two {x = x} {y = y} agreeing f h c) =
      let s = simpler f in
      let r = simpler h in
      behind (two-left agreeing s r refl) (agreeing-is s.flat r.flat (said (simplified x)) (said (simplified y)) refl refl)
  simpler (two equal f h c) = two-left equal (simpler f) (simpler h) refl
  simpler (two unequal f h c) = two-left unequal (simpler f) (simpler h) refl
  simpler (two below f h c) = two-left below (simpler f) (simpler h) refl
  simpler (two at_most f h c) = two-left at_most (simpler f) (simpler h) refl
  simpler (two above f h c) = two-left above (simpler f) (simpler h) refl
  simpler (two at_least f h c) = two-left at_least (simpler f) (simpler h) refl
  simpler (two sum f h c) = two-left sum (simpler f) (simpler h) refl
  simpler (two difference f h c) = two-left difference (simpler f) (simpler h) refl
  simpler (two product f h c) = let s = simpler f in two-left product s (simpler h) (s.choice c)
  simpler (chosen f) = let s = simpler f in record {
    flat = chosen s.flat;
    means = ap (λ p. false_where_undefined false (value_of_node (word Fun.ToInt) (p ∷ []))) s.means;
    numbers = λ Q n. (s.numbers Q n.0, tt);
    choice = λ c. c;
  }
