-- The number of a value tells it from the members of an atom of its type, where positions stand for the values of named types.
use Rattle.std.proofs.Common.{◌≡◌, refl, sym, ap, ◌∙◌, Bool, true, false, List, [], ◌∷◌, pos, negsuc, Option, Some, None}
use Rattle.std.specs.Prelude.{IsTrue, is_some}
use Rattle.ess_semantics.specs.Values.{Text, Value, number, truth, item, node}
use Rattle.ess_semantics.specs.Kinds.{is_atom}
use Rattle.ess_semantics.specs.Domains.{Span, Domain, booleans, integers, between}
use Rattle.ess_semantics.specs.Membership.{member}
use Rattle.ess_semantics.specs.Tables.{code}
use Rattle.ess_semantics.specs.Trees.{Dom, bool_dom, int_dom, name_dom, tuple_dom, record_dom, matrix_dom, set_dom, mset_dom, function_dom, relation_dom, partition_dom}
use Rattle.ess_semantics.specs.Types.{Ty, any_ty, bool_ty, int_ty, named_ty, compound, join, type_of_dom}
use Rattle.ess_semantics.specs.TypeMembers.{is_of_named, is_of}
use Rattle.ess_semantics.specs.Meaning.{Env, TypeEntry, type_entry, named_domain, spans_of, meanings, domain_of}
use Rattle.ess_repr_declare_laws.proofs.SizeNumbers.{mapped}

-- ---- forms of values

abbrev is_number : Value → Bool
is_number (number n) = true
is_number v = false

abbrev is_truth : Value → Bool
is_truth (truth b) = true
is_truth v = false

-- Numbers are their own codes, and so are truth values.
numbers-told : (u w : Value) → is_number u ≡ true → is_number w ≡ true → code u ≡ code w → u ≡ w
numbers-told (number n) (number m) h k q = ap number q
numbers-told (number n) (truth b) h k q = cc
numbers-told (number n) (item t j) h k q = cc
numbers-told (number n) (node j xs) h k q = cc
numbers-told (truth b) w h k q = cc
numbers-told (item t j) w h k q = cc
numbers-told (node j xs) w h k q = cc

truths-told : (u w : Value) → is_truth u ≡ true → is_truth w ≡ true → code u ≡ code w → u ≡ w
truths-told (truth true) (truth true) h k q = refl
truths-told (truth false) (truth false) h k q = refl
truths-told (truth true) (truth false) h k q = cc
truths-told (truth false) (truth true) h k q = cc
truths-told (truth b) (number n) h k q = cc
truths-told (truth b) (item t j) h k q = cc
truths-told (truth b) (node j xs) h k q = cc
truths-told (number n) w h k q = cc
truths-told (item t j) w h k q = cc
truths-told (node j xs) w h k q = cc

-- ---- members

members-number : (ss : List Span) (u : Value) → member (integers ss) u ≡ true → is_number u ≡ true
members-number ss (number n) h = refl
members-number ss (truth b) h = cc
members-number ss (item t k) h = cc
members-number ss (node k xs) h = cc

members-truth : (u : Value) → member booleans u ≡ true → is_truth u ≡ true
members-truth (truth b) h = refl
members-truth (number n) h = cc
members-truth (item t k) h = cc
members-truth (node k xs) h = cc

-- ---- values of types that agree

-- There is a type with which both agree.
abbrev pub Agreed : Ty → Ty → Type 0
Agreed t u = is_some (join t u) ≡ true

typed-number : (p : Bool) (es : List TypeEntry) (t : Ty) (w : Value) → Agreed t int_ty → IsTrue (is_of p es t w) → is_number w ≡ true
typed-number p es int_ty (number n) a h = refl
typed-number p es int_ty (truth b) a h = cc
typed-number p es int_ty (item t k) a h = cc
typed-number p es int_ty (node k xs) a h = cc
typed-number p es any_ty w a h = cc
typed-number p es bool_ty w a h = cc
typed-number p es (named_ty t) w a h = cc
typed-number p es (compound k ts) w a h = cc

typed-truth : (p : Bool) (es : List TypeEntry) (t : Ty) (w : Value) → Agreed t bool_ty → IsTrue (is_of p es t w) → is_truth w ≡ true
typed-truth p es bool_ty (truth b) a h = refl
typed-truth p es bool_ty (number n) a h = cc
typed-truth p es bool_ty (item t k) a h = cc
typed-truth p es bool_ty (node k xs) a h = cc
typed-truth p es any_ty w a h = cc
typed-truth p es int_ty w a h = cc
typed-truth p es (named_ty t) w a h = cc
typed-truth p es (compound k ts) w a h = cc

position : (a : Text) (o : Option TypeEntry) (w : Value) → IsTrue (is_of_named true a o w) → is_number w ≡ true
position a (Some t) (number (pos k)) h = refl
position a (Some t) (number (negsuc k)) h = cc
position a (Some t) (truth b) h = cc
position a (Some t) (item u k) h = cc
position a (Some t) (node k xs) h = cc
position a None w h = cc

typed-position : (es : List TypeEntry) (a : Text) (t : Ty) (w : Value) → Agreed t (named_ty a) → IsTrue (is_of true es t w) →
    is_number w ≡ true
typed-position es a (named_ty b) w j h = position b (type_entry es b) w h
typed-position es a any_ty w j h = cc
typed-position es a bool_ty w j h = cc
typed-position es a int_ty w j h = cc
typed-position es a (compound k ts) w j h = cc

-- ---- told

-- A value whose type agrees with that of an atom is told from its members by its number.
pub atom-told : (es : List TypeEntry) (d : Dom) (env : Env) (x : Domain) → is_atom d ≡ true → env.positions ≡ true →
    domain_of d env ≡ Some x →
    (t : Ty) → Agreed t (type_of_dom d) → (u w : Value) → member x u ≡ true → IsTrue (is_of true es t w) → code u ≡ code w → u ≡ w
atom-told es bool_dom env x a b h t j u w m k q =
    let i : booleans ≡ x = cc in
    truths-told u w (members-truth u (ap (λ z. member z u) i ∙ m)) (typed-truth true es t w j k) q
atom-told es (int_dom rs ns) env x a b h t j u w m k q =
    let i = mapped integers (spans_of rs (meanings ns env)) x h in
    numbers-told u w (members-number i.0 u (ap (λ z. member z u) i.2 ∙ m)) (typed-number true es t w j k) q
atom-told es (name_dom c) env x a b h t j u w m k q =
    numbers-told u w (go (type_entry env.types c) (sym (ap (λ z. named_domain z c (type_entry env.types c)) b) ∙ h))
    (typed-position es c t w j k) q
  where
    go : (o : Option TypeEntry) → named_domain true c o ≡ Some x → is_number u ≡ true
    go None h = cc
    go (Some e) h =
        let i : between (pos 1) (pos e.count) ≡ x = cc in
        members-number ((record { low = Some (pos 1); high = Some (pos e.count) }) ∷ []) u (ap (λ z. member z u) i ∙ m)
atom-told es (tuple_dom ds) env x a b h t j u w m k q = cc
atom-told es (record_dom fs ds) env x a b h t j u w m k q = cc
atom-told es (matrix_dom is d) env x a b h t j u w m k q = cc
atom-told es (set_dom ms ns d) env x a b h t j u w m k q = cc
atom-told es (mset_dom ms ns d) env x a b h t j u w m k q = cc
atom-told es (function_dom ms ns d c) env x a b h t j u w m k q = cc
atom-told es (relation_dom ms ns ds) env x a b h t j u w m k q = cc
atom-told es (partition_dom ms ns d) env x a b h t j u w m k q = cc
