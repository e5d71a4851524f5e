-- The value of a tree over views has the mark of the tree, and the value of a set term is a set of members of its kind, where names have
-- values of their types.
use Rattle.std.proofs.Common.{◌≡◌, refl, sym, ap, subst, ℕ, Bool, true, false, if◌then◌else◌, List, [], ◌∷◌, ℤ, Option, Some, None, option_map}
use Rattle.std.specs.Prelude.{IsTrue, is_some}
use Rattle.ess_semantics.specs.declared.words.Op1.{Op1}
use Rattle.ess_semantics.specs.declared.words.Op2.{Op2}
use Rattle.ess_semantics.specs.declared.words.Fun.{Fun}
use Rattle.ess_semantics.specs.declared.words.ReprKind.{ReprKind}
use Rattle.ess_semantics.specs.Values.{Text, a_set, Value, number as number_value, truth as truth_value, item, node}
use Rattle.ess_semantics.specs.Order.{same_text}
use Rattle.ess_semantics.specs.Names.{Names, look}
use Rattle.ess_semantics.specs.Operators.{value_of_node}
use Rattle.ess_semantics.specs.Trees.{unary, binary, word, repr, no_reprs, Mark, Ex, Exs, comp_ex, seen_ex, Dom, set_dom}
use Rattle.ess_semantics.specs.Types.{compound1, type_of_dom}
use Rattle.ess_semantics.specs.Tables.{Table, cell_at}
use Rattle.ess_semantics.specs.Typed.{Typed}
use Rattle.ess_semantics.specs.TypeMembers.{is_of_type}
use Rattle.ess_semantics.specs.Meaning.{Env, meaning, meanings, cell_in, cell_value, indices, is_bool_dom}
use Rattle.ess_semantics.specs.Meets.{Meets}
use Rattle.ess_types_laws.specs.ProperDomains.{is_proper}
use Rattle.ess_view_types_laws.specs.ViewTypes.{ViewHasValue}
use Rattle.ess_view_types_laws.proofs.ViewTypes.{views-have-their-type}
use Rattle.ess_rules_laws.specs.Rules.{IsTruth, IsNumber}
use Rattle.ess_rules_laws.specs.SourceRules.{list_of}
use Rattle.ess_nested_laws.specs.NestedDomains.{is_nested_dom, is_written_atom}
use Rattle.ess_nested_laws.proofs.NestedForms.{atom-form, WrittenAtom, written_truths, written_numbers, NestedSet, of_atoms, of_sets, nested-form}
use Rattle.ess_flat_laws.specs.Flat.{denied, negative, absolute, both, either, implied, agreeing, equal, unequal, below, at_most, above, at_least, sum, difference, product}
use Rattle.ess_seen_laws.specs.ess_bare_laws.Lean.{of_all, of_some, of_sum}
use Rattle.ess_seen_laws.proofs.ess_bare_laws.Scalars.{HasMark}
use Rattle.ess_seen_laws.specs.Seen.{Kind, scalars, sets_of, kind_of, kind_ty, Bound, bound_kind, bound_types, Counted, as_an_atom, united, shared, lessened, SetTerm, view, drawn, combined, Seen, number, truth, named, counted, figure, flag, atom, one, two, chosen, folded, of_items, size, within, set_within, compared}
use Rattle.ess_seen_laws.proofs.Counts.{counted-means}
pub use Rattle.ess_seen_values_laws.proofs.SetValues.{IsSet}
use Rattle.ess_seen_values_laws.proofs.SetValues.{a-set, there, at-union, at-intersection, at-difference}

-- ---- marks of values

-- The type of a mark.
of-mark : (m : Bool) (env : Env) (v : Value) → IsTrue (is_of_type (kind_ty (scalars m)) env v) → HasMark m (Some v)
of-mark true env (truth_value b) h = tt
of-mark true env (number_value n) h = cc
of-mark true env (item a n) h = cc
of-mark true env (node k vs) h = cc
of-mark false env (truth_value b) h = cc
of-mark false env (number_value n) h = tt
of-mark false env (item a n) h = cc
of-mark false env (node k vs) h = cc

cell-number : (t : Option Table) (is : Option (List ℤ)) → HasMark false (cell_in false t is)
cell-number None is = tt
cell-number (Some t) None = tt
cell-number (Some t) (Some is) = go (cell_at t is)
  where
    go : (o : Option ℤ) → HasMark false (option_map (cell_value false) o)
    go None = tt
    go (Some n) = tt

negated : (o : Option Value) → HasMark false (value_of_node (unary Op1.Minus) (o ∷ []))
negated None = tt
negated (Some v) = tt

sized : (o : Option Value) → HasMark false (value_of_node (unary Op1.Bar) (o ∷ []))
sized None = tt
sized (Some (number_value n)) = tt
sized (Some (truth_value b)) = tt
sized (Some (item a n)) = tt
sized (Some (node k vs)) = tt

added-up : (o p : Option Value) → HasMark false (value_of_node (binary Op2.Plus) (o ∷ p ∷ []))
added-up None p = tt
added-up (Some v) None = tt
added-up (Some v) (Some w) = tt

taken-off : (o p : Option Value) → HasMark false o → HasMark false (value_of_node (binary Op2.Minus) (o ∷ p ∷ []))
taken-off None p h = tt
taken-off (Some v) None h = tt
taken-off (Some (number_value n)) (Some w) h = tt
taken-off (Some (truth_value b)) (Some w) h = absurd h
taken-off (Some (item a n)) (Some w) h = absurd h
taken-off (Some (node k vs)) (Some w) h = absurd h

multiplied : (o p : Option Value) → HasMark false (value_of_node (binary Op2.Times) (o ∷ p ∷ []))
multiplied None p = tt
multiplied (Some v) None = tt
multiplied (Some v) (Some w) = tt

chosen-number : (o : Option Value) → HasMark false (value_of_node (word Fun.ToInt) (o ∷ []))
chosen-number None = tt
chosen-number (Some v) = tt

summed : (o : Option Value) → HasMark false (value_of_node (word Fun.Sum) (o ∷ []))
summed None = tt
summed (Some v) = tt

-- A number of slots is one.
pub counted-mark : {e : Ex} {n : ℕ} (env : Env) → Counted e n → HasMark false (meaning e env)
counted-mark env c = subst (HasMark false) (sym (counted-means c env)) tt

-- ---- types of domains

pub atom-kind : {d : Dom} → WrittenAtom d → kind_ty (kind_of d) ≡ type_of_dom d
atom-kind written_truths = refl
atom-kind written_numbers = refl

pub nested-kind : {d : Dom} → NestedSet d → kind_ty (kind_of d) ≡ type_of_dom d
nested-kind (of_atoms s a) = ap (compound1 a_set) (atom-kind a)
nested-kind (of_sets s n) = ap (compound1 a_set) (nested-kind n)

atom-proper : {d : Dom} → WrittenAtom d → is_proper d ≡ true
atom-proper written_truths = refl
atom-proper written_numbers = refl

-- Index domains and relations are none there.
pub nested-proper : {d : Dom} → NestedSet d → is_proper d ≡ true
nested-proper (of_atoms s a) = atom-proper a
nested-proper (of_sets s n) = nested-proper n

-- The type of a set of nested sets is that of its kind.
pub set-kind : (ms : List Mark) (es : Exs) (d : Dom) → is_nested_dom (set_dom ms es d) ≡ true →
    kind_ty (sets_of (kind_of d)) ≡ type_of_dom (set_dom ms es d)
set-kind ms es d h = nested-kind (nested-form 250 (set_dom ms es d) h)

-- The type of a bound name.
pub look-bound : (r : Names Bound) (a : Text) (b : Bound) → look r a ≡ Some b → look (bound_types r) a ≡ Some (kind_ty (bound_kind b))
look-bound [] a b h = cc
look-bound (c ∷ r) a b h = go (same_text c.0 a) h (look-bound r a b)
  where
    go : (x : Bool) → (if x then Some c.1 else look r a) ≡ Some b →
        (look r a ≡ Some b → look (bound_types r) a ≡ Some (kind_ty (bound_kind b))) →
        (if x then Some (kind_ty (bound_kind c.1)) else look (bound_types r) a) ≡ Some (kind_ty (bound_kind b))
    go true q f = let e : c.1 ≡ b = cc in ap (λ z. Some (kind_ty (bound_kind z))) e
    go false q f = f q

module _ (cells : Text → Option (Bool × List ℕ)) (r : Names Bound) (env : Env) (typed : Typed (bound_types r) env) where
  -- ---- sets

  -- The value of a set term is a set, of the type of its kind, where there is one.
  pub set-value : {e : Ex} {k : Kind} → SetTerm cells r e k → Meets e env → IsTrue (is_some (meaning e env)) → IsSet k (meaning e env) env
  set-value {k = k} (view {p = p} {ms = ms} {es = es} {js = js} {d = d} {ns = ns} n f q w) m h =
      let v : ViewHasValue p (set_dom ms es d) ns js env =
      views-have-their-type.has_value p (set_dom ms es d) ns js env (nested-proper (nested-form 250 (set_dom ms es d) n)) m in
      a-set (kind_of d) env (meaning (seen_ex p (set_dom ms es d) ns js) env) v.value v.is_value
      (subst (λ t. IsTrue (is_of_type t env v.value)) (sym (set-kind ms es d n)) v.typed)
  set-value (drawn {a = a} {k = k} q) m h =
      let v = there (look env.vals a) h in
      a-set k env (look env.vals a) v.0 v.1 (typed a (kind_ty (sets_of k)) v.0 (look-bound r a _ q) v.1)
  set-value (combined {s = s} {t = t} {k = k} united f g) m h =
      at-union k env (meaning s env) (meaning t env) (λ i. set-value f m.0 i) (λ i. set-value g m.1.0 i) h
  set-value (combined {s = s} {t = t} {k = k} shared f g) m h =
      at-intersection k env (meaning s env) (meaning t env) (λ i. set-value f m.0 i) (λ i. set-value g m.1.0 i) h
  set-value (combined {s = s} {t = t} {k = k} lessened f g) m h =
      at-difference k env (meaning s env) (meaning t env) (λ i. set-value f m.0 i) (λ i. set-value g m.1.0 i) h

  -- ---- scalars

  named-mark : (a : Text) (b : Bound) (m : Bool) → look r a ≡ Some b → bound_kind b ≡ scalars m → (o : Option Value) → look env.vals a ≡ o →
      HasMark m o
  named-mark a b m h k None q = tt
  named-mark a b m h k (Some v) q =
      of-mark m env v (subst (λ z. IsTrue (is_of_type (kind_ty z) env v)) k (typed a (kind_ty (bound_kind b)) v (look-bound r a b h) q))

  atom-mark : (d : Dom) (n : Text) (js : Exs) → is_written_atom d ≡ true →
      Meets (seen_ex (repr ReprKind.Atom no_reprs) d (n ∷ []) js) env →
      HasMark (is_bool_dom d) (meaning (seen_ex (repr ReprKind.Atom no_reprs) d (n ∷ []) js) env)
  atom-mark d n js w m =
      let v : ViewHasValue (repr ReprKind.Atom no_reprs) d (n ∷ []) js env =
      views-have-their-type.has_value (repr ReprKind.Atom no_reprs) d (n ∷ []) js env (atom-proper (atom-form d w)) m in
      subst (λ o. HasMark (is_bool_dom d) o) (sym v.is_value) (go (atom-form d w) v.value v.typed)
    where
      go : {d : Dom} → WrittenAtom d → (v : Value) → IsTrue (is_of_type (type_of_dom d) env v) → HasMark (is_bool_dom d) (Some v)
      go written_truths v h = of-mark true env v h
      go written_numbers v h = of-mark false env v h

  -- The value of a tree over views has its mark.
  pub seen-mark : {e : Ex} {m : Bool} → Seen cells r e m → Meets e env → HasMark m (meaning e env)
  seen-mark number n = tt
  seen-mark truth n = tt
  seen-mark (named {a = a} {b = b} {m = m} h k) n = named-mark a b m h k (look env.vals a) refl
  seen-mark (counted c) n = counted-mark env c
  seen-mark (figure {n = t} {es = es} h p) n = cell-number (look env.cells t) (indices (meanings es env))
  seen-mark (flag h i) n = tt
  seen-mark (atom {d = d} {n = t} {js = js} (as_an_atom w q) p) n = atom-mark d t js w n
  seen-mark (one denied f) n = tt
  seen-mark (one {x = x} negative f) n = negated (meaning x env)
  seen-mark (one {x = x} absolute f) n = sized (meaning x env)
  seen-mark (two both f h) n = tt
  seen-mark (two either f h) n = tt
  seen-mark (two implied f h) n = tt
  seen-mark (two agreeing f h) n = tt
  seen-mark (two equal f h) n = tt
  seen-mark (two unequal f h) n = tt
  seen-mark (two below f h) n = tt
  seen-mark (two at_most f h) n = tt
  seen-mark (two above f h) n = tt
  seen-mark (two at_least f h) n = tt
  seen-mark (two {x = x} {y = y} sum f h) n = added-up (meaning x env) (meaning y env)
  seen-mark (two {x = x} {y = y} difference f h) n = taken-off (meaning x env) (meaning y env) (seen-mark f n.0)
  seen-mark (two {x = x} {y = y} product f h) n = multiplied (meaning x env) (meaning y env)
  seen-mark (chosen {x = x} f) n = chosen-number (meaning x env)
  seen-mark (folded of_all g f) n = tt
  seen-mark (folded of_some g f) n = tt
  seen-mark (folded {e = x} {gs = gs} of_sum g f) n = summed (meaning (comp_ex x gs) env)
  seen-mark (of_items of_all l) n = tt
  seen-mark (of_items of_some l) n = tt
  seen-mark (of_items {es = es} of_sum l) n = summed (meaning (list_of es) env)
  seen-mark (size {s = s} f) n = sized (meaning s env)
  seen-mark (within f g) n = tt
  seen-mark (set_within f g) n = tt
  seen-mark (compared o f g) n = tt

-- What has a mark and is there is a truth value, or a number.
pub truth-said : (o : Option Value) → HasMark true o → IsTrue (is_some o) → IsTruth o
truth-said None h q = cc
truth-said (Some (truth_value b)) h q = tt
truth-said (Some (number_value n)) h q = absurd h
truth-said (Some (item a n)) h q = absurd h
truth-said (Some (node k vs)) h q = absurd h

pub number-said : (o : Option Value) → HasMark false o → IsTrue (is_some o) → IsNumber o
number-said None h q = cc
number-said (Some (truth_value b)) h q = absurd h
number-said (Some (number_value n)) h q = tt
number-said (Some (item a n)) h q = absurd h
number-said (Some (node k vs)) h q = absurd h
