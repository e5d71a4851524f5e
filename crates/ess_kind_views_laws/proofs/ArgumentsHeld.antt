-- The argument of a view of a total function is a member of the function's first domain, where there is a result.
use Rattle.std.proofs.Common.{◌≡◌, refl, sym, ap, ◌∙◌, subst, Bool, true, false, ◌&&◌, if◌then◌else◌, List, [], ◌∷◌, Option, Some, None}
use Rattle.std.specs.Prelude.{is_some}
use Rattle.std.specs.List.{list_all}
use Rattle.ess_semantics.specs.declared.words.Fun.{Fun}
use Rattle.ess_semantics.specs.Lists.{and_then, all_some}
use Rattle.ess_semantics.specs.Values.{a_function, Text, Value, node, of_list, from_of, to_of}
use Rattle.ess_semantics.specs.Order.{same}
use Rattle.ess_semantics.specs.Collections.{value_at}
use Rattle.ess_semantics.specs.Domains.{Domain, functions, member_list}
use Rattle.ess_semantics.specs.Membership.{member, is_pair}
use Rattle.ess_semantics.specs.Operators.{value_of_op}
use Rattle.ess_semantics.specs.Trees.{word, application, Op, Mark, Repr, Ex, Exs, seen_ex, Dom, function_dom}
use Rattle.ess_semantics.specs.Meaning.{Env, meaning, domain_of, members_in}
use Rattle.ess_semantics.specs.Meets.{Meets}
use Rattle.ess_semantics.proofs.Orders.{same-equal, to_list-of_list}
use Rattle.ess_semantics.proofs.Tests.{and-left, and-right}
use Rattle.ess_repr_laws.specs.Finite.{Enumerated}
use Rattle.ess_repr_laws.proofs.FunctionPairs.{FunctionMember, function-member}
use Rattle.ess_repr_laws.proofs.Enumerables.{IsEnumerated}
use Rattle.ess_repr_structure_laws.proofs.ReadyParts.{listed-is}
use Rattle.ess_repr_declare_laws.proofs.ChildDomainsDenoted.{FunctionOf, function-of}
use Rattle.ess_rules_laws.specs.FunctionKeys.{IsMember}
use Rattle.ess_views_kept_laws.proofs.OpenedViews.{Opened, opened, opened-means, opened-value}

some-same : {A : Type 0} (o : Option A) (x y : A) → o ≡ Some x → o ≡ Some y → x ≡ y
some-same o x y h k = let q : Some x ≡ Some y = sym h ∙ k in cc

-- ---- arguments of pairs

-- An argument with a value is the first part of a pair.
first-held : (x y : Domain) (ps : List Value) (v : Value) →
    list_all (λ p. is_pair p && member x (from_of p) && member y (to_of p)) ps ≡ true → is_some (value_at ps v) ≡ true → member x v ≡ true
first-held x y [] v m h = cc
first-held x y (p ∷ ps) v m h = go (same (from_of p) v) refl (first-held x y ps v (and-right _ _ m)) h
  where
    go : (b : Bool) → same (from_of p) v ≡ b → (is_some (value_at ps v) ≡ true → member x v ≡ true) →
        is_some (if b then Some (to_of p) else value_at ps v) ≡ true → member x v ≡ true
    go true q f h = ap (member x) (sym (same-equal (from_of p) v q))
        ∙ and-right (is_pair p) (member x (from_of p)) (and-left (is_pair p && member x (from_of p)) (member y (to_of p)) (and-left _ _ m))
    go false q f h = f h

-- ---- a function with a value at an argument

-- The function and the argument are there.
record ResultThere (op : Op) (o p : Option Value) : Type 0 where
  pub function_value : Value
  pub argument : Value
  pub is_function : o ≡ Some function_value
  pub is_argument : p ≡ Some argument
  pub is_result : is_some (value_of_op op (function_value ∷ argument ∷ [])) ≡ true

result-there : (op : Op) (o p : Option Value) → is_some (and_then (all_some (o ∷ p ∷ [])) (value_of_op op)) ≡ true → ResultThere op o p
result-there op None p h = cc
result-there op (Some f) None h = cc
result-there op (Some f) (Some a) h = record { function_value = f; argument = a; is_function = refl; is_argument = refl; is_result = h }

-- Whether the operator takes a function at an argument.
abbrev pub takes_argument : Op → Bool
takes_argument application = true
takes_argument (word Fun.Image) = true
takes_argument op = false

-- What it gives of a function.
result-of : (op : Op) (ps : List Value) (v : Value) → takes_argument op ≡ true →
    is_some (value_of_op op (node a_function (of_list ps) ∷ v ∷ [])) ≡ true → is_some (value_at ps v) ≡ true
result-of application ps v t h = subst (λ l. is_some (value_at l v) ≡ true) (to_list-of_list ps) h
result-of (word Fun.Image) ps v t h = subst (λ l. is_some (value_at l v) ≡ true) (to_list-of_list ps) h
result-of _ ps v t h = cc

-- ---- views

module _ (r : Repr) (ms : List Mark) (es : Exs) (d c : Dom) (ns : List Text) (js : Exs) (a : Ex) (env : Env) (x : Domain)
    (first-is : domain_of d env ≡ Some x) (e : IsEnumerated x) where
  abbrev View : Ex
  View = seen_ex r (function_dom ms es d c) ns js

  -- Where there is a result the argument is a member of the first domain, whose members are listed.
  pub argument-held : (op : Op) → takes_argument op ≡ true → Meets View env →
      is_some (and_then (all_some (meaning View env ∷ meaning a env ∷ [])) (value_of_op op)) ≡ true → IsMember a d env
  argument-held op t m h =
      let o : Opened r (function_dom ms es d c) ns js env = opened r (function_dom ms es d c) ns js env m in
      let w = opened-value r (function_dom ms es d c) ns js env o in
      let u : ResultThere op (meaning View env) (meaning a env) = result-there op (meaning View env) (meaning a env) h in
      let f : FunctionOf ms es d c env o.d = function-of ms es d c env o.d o.domain_is in
      let y : f.first ≡ x = some-same (domain_of d env) f.first x f.from first-is in
      let k : member (functions f.keys x f.second) u.function_value ≡ true =
      ap (λ z. member (functions f.keys z f.second) u.function_value) (sym y)
      ∙ ap (λ z. member z u.function_value) f.whole
      ∙ ap (member o.d) (some-same (meaning View env) u.function_value w.0 u.is_function
      (opened-means r (function_dom ms es d c) ns js env refl o ∙ w.1)) ∙ w.2 in
      let i = function-member f.keys x f.second u.function_value k in
      let q : FunctionMember f.keys x f.second i.0 = i.2 in
      let n : Enumerated x = e.enumerated in
      record {
        value = u.argument;
        members = member_list x;
        is_value = u.is_argument;
        are_members = ap members_in first-is ∙ listed-is x e.there;
        is_held = n.complete u.argument (first-held x f.second i.0 u.argument q.pairs
            (result-of op i.0 u.argument t (subst (λ z. is_some (value_of_op op (z ∷ u.argument ∷ [])) ≡ true) i.1 u.is_result)));
      }
