-- A tuple literal is told from the tuples of a domain by the numbers of its components, by their types.
use Rattle.std.proofs.Common.{◌≡◌, refl, sym, ap, ◌∙◌, subst, Bool, true, false, List, [], ◌∷◌, ℤ, map, Option, Some, None, option_map}
use Rattle.std.specs.Prelude.{IsTrue, is_some}
use Rattle.ess_semantics.specs.declared.words.Op2.{Op2}
use Rattle.ess_semantics.specs.Lists.{and_then, all_some}
use Rattle.ess_semantics.specs.Values.{a_tuple, a_matrix, a_set, a_mset, a_function, a_relation, a_partition, a_record, Value, number, truth, item, node, Values, nil, cons, to_list, of_list, items_of}
use Rattle.ess_semantics.specs.Collections.{holds}
use Rattle.ess_semantics.specs.Kinds.{is_atom, are_atoms}
use Rattle.ess_semantics.specs.Names.{Names}
use Rattle.ess_semantics.specs.Domains.{Domains, no_domains, more_domains, tuples, member_list}
use Rattle.ess_semantics.specs.Atoms.{Listed}
use Rattle.ess_semantics.specs.Membership.{member, member_of_each}
use Rattle.ess_semantics.specs.Operators.{value_of_op}
use Rattle.ess_semantics.specs.Tables.{code}
use Rattle.ess_semantics.specs.Trees.{binary, tuple_literal, Ex, Exs, node_ex, Doms, tuple_dom, no_doms, more_doms}
use Rattle.ess_semantics.specs.Types.{Ty, Tys, any_ty, bool_ty, compound, no_tys, more_tys, tys_of, join, joins, type_of_dom, types_of_doms}
use Rattle.ess_semantics.specs.OperatorTypes.{tuple_ty, type_of_op}
use Rattle.ess_semantics.specs.Typing.{type_of, types_of}
use Rattle.ess_semantics.specs.Typed.{Typed}
use Rattle.ess_semantics.specs.TypeMembers.{is_of, are_of}
use Rattle.ess_semantics.specs.Meaning.{Env, meaning, meanings, domain_of, domains_of}
use Rattle.ess_semantics.proofs.Sorting.{all-holds}
use Rattle.ess_semantics.proofs.Tests.{and-left, and-right}
use Rattle.ess_repr_laws.specs.Finite.{Enumerated}
use Rattle.ess_repr_laws.proofs.Enumerables.{IsEnumerated}
use Rattle.ess_rules_laws.specs.Rules.{Sound}
use Rattle.ess_rules_laws.specs.FunctionKeys.{IsTold}
use Rattle.ess_views_kept_laws.proofs.SideBySide.{domains-split, domains-some}
use Rattle.ess_kind_steps_laws.proofs.ToldAtoms.{Agreed, atom-told}
use Rattle.ess_kind_views_laws.proofs.JudgedTuples.{FiniteTuples, tuples-are-members, tuples-enumerated}

some-same : {A : Type 0} (o : Option A) (x y : A) → o ≡ Some x → o ≡ Some y → x ≡ y
some-same o x y h k = let q : Some x ≡ Some y = sym h ∙ k in cc

positive : (b : Bool) → IsTrue b → b ≡ true
positive true h = refl
positive false h = h

there : {A : Type 0} (o : Option A) → IsTrue (is_some o) → (a : A) × (o ≡ Some a)
there None h = cc
there (Some a) h = (a, refl)

-- ---- types

-- The types of components agree with those of the domains. Of no domains nothing is asked.
abbrev pub AgreeEach : Tys → Doms → Type 0
AgreeEach ts no_doms = Unit {0}
AgreeEach ts (more_doms d ds) = is_some (joins ts (types_of_doms (more_doms d ds))) ≡ true

-- Of those behind the first one.
agree-behind : (ts : Tys) (ds : Doms) → is_some (joins ts (types_of_doms ds)) ≡ true → AgreeEach ts ds
agree-behind ts no_doms h = tt
agree-behind ts (more_doms d ds) h = h

both-some : (o : Option Ty) (p : Option Tys) → is_some (and_then o (λ v. option_map (more_tys v) p)) ≡ true →
    (is_some o ≡ true) × (is_some p ≡ true)
both-some None p h = cc
both-some (Some v) None h = cc
both-some (Some v) (Some vs) h = (refl, refl)

joined : (o : Option Tys) → is_some (option_map (compound a_tuple) o) ≡ true → is_some o ≡ true
joined None h = h
joined (Some ts) h = refl

-- Tuple types that agree do so part by part.
pub agree-each : (ts : Tys) (ds : Doms) → Agreed (compound a_tuple ts) (compound a_tuple (types_of_doms ds)) → AgreeEach ts ds
agree-each ts no_doms h = tt
agree-each no_tys (more_doms d ds) h = joined (joins no_tys (types_of_doms (more_doms d ds))) h
agree-each (more_tys t ts) (more_doms d ds) h = joined (joins (more_tys t ts) (types_of_doms (more_doms d ds))) h

-- So do they with the type of a relation's tuples.
pub agree-related : (ts : Tys) (ds : Doms) → Agreed (compound a_tuple ts) (tuple_ty (types_of_doms ds)) → AgreeEach ts ds
agree-related ts no_doms h = tt
agree-related ts (more_doms d ds) h = agree-each ts (more_doms d ds) h

-- ---- values

heads : (m n : ℤ) (ks ls : List ℤ) → m ∷ ks ≡ n ∷ ls → m ≡ n
heads m n ks ls q = cc

tails : (m n : ℤ) (ks ls : List ℤ) → m ∷ ks ≡ n ∷ ls → ks ≡ ls
tails m n ks ls q = cc

-- Components whose numbers are the same are the same.
each-told : (env : Env) (ds : Doms) (xs : Domains) (ts : Tys) (us ws : Values) → env.positions ≡ true → are_atoms ds ≡ true →
    domains_of ds env ≡ Some xs → AgreeEach ts ds → member_of_each xs us ≡ true → IsTrue (are_of true env.types ts (to_list ws)) →
    map code (to_list us) ≡ map code (to_list ws) → us ≡ ws
each-told env ds xs ts nil nil p a q j m k c = refl
each-told env ds xs ts nil (cons w ws) p a q j m k c = cc
each-told env ds xs ts (cons u us) nil p a q j m k c = cc
each-told env no_doms no_domains ts (cons u us) (cons w ws) p a q j m k c = cc
each-told env no_doms (more_domains x xs) ts (cons u us) (cons w ws) p a q j m k c = cc
each-told env (more_doms d ds) no_domains ts (cons u us) (cons w ws) p a q j m k c =
    domains-some (domain_of d env) (domains_of ds env) q
each-told env (more_doms d ds) (more_domains x xs) no_tys (cons u us) (cons w ws) p a q j m k c = cc
each-told env (more_doms d ds) (more_domains x xs) (more_tys t ts) (cons u us) (cons w ws) p a q j m k c =
    let s = domains-split (domain_of d env) (domains_of ds env) x xs q in
    let b = both-some (join t (type_of_dom d)) (joins ts (types_of_doms ds)) j in
    let first = heads (code u) (code w) (map code (to_list us)) (map code (to_list ws)) c in
    let behind = tails (code u) (code w) (map code (to_list us)) (map code (to_list ws)) c in
    let e : u ≡ w = atom-told env.types d env x (and-left (is_atom d) (are_atoms ds) a) p s.0 t b.0 u w
    (and-left (member x u) (member_of_each xs us) m) (and-left (is_of true env.types t w) (are_of true env.types ts (to_list ws)) k) first in
    let f : us ≡ ws = each-told env ds xs ts us ws p (and-right (is_atom d) (are_atoms ds) a) s.1 (agree-behind ts ds b.1)
    (and-right (member x u) (member_of_each xs us) m) (and-right (is_of true env.types t w) (are_of true env.types ts (to_list ws)) k)
    behind in
    ap (λ z. cons z us) e ∙ ap (cons w) f

-- A member of a domain of tuples is a tuple.
tuple-member : (xs : Domains) (v : Value) → member (tuples xs) v ≡ true → (us : Values) × (v ≡ node a_tuple us) × (member_of_each xs us ≡ true)
tuple-member xs (node a_tuple us) h = (us, refl, h)
tuple-member xs (number n) h = cc
tuple-member xs (truth b) h = cc
tuple-member xs (item t k) h = cc
tuple-member xs (node a_matrix us) h = cc
tuple-member xs (node a_set us) h = cc
tuple-member xs (node a_mset us) h = cc
tuple-member xs (node a_function us) h = cc
tuple-member xs (node a_relation us) h = cc
tuple-member xs (node a_partition us) h = cc
tuple-member xs (node (a_record fs) us) h = cc

-- The value of a literal is one.
literal-value : (o : Option (List Value)) (w : Value) → and_then o (value_of_op tuple_literal) ≡ Some w →
    (ws : Values) × (w ≡ node a_tuple ws)
literal-value None w q = (nil, cc)
literal-value (Some xs) w q = (of_list xs, sym (value-in q))
  where
    value-in : {v w : Value} → Some v ≡ Some w → v ≡ w
    value-in q = cc

-- Its type is one of tuples.
literal-type : (o : Option (List Ty)) (u : Ty) → and_then o (type_of_op tuple_literal) ≡ Some u → (ts : Tys) × (u ≡ compound a_tuple ts)
literal-type None u q = (no_tys, cc)
literal-type (Some us) u q = (tys_of us, sym (type-in q))
  where
    type-in : {v w : Ty} → Some v ≡ Some w → v ≡ w
    type-in q = cc

-- ---- literals

module _ (g : Names Ty) (as' : Exs) (ds : Doms) (env : Env) (f : FiniteTuples ds env) where
  abbrev Literal : Ex
  Literal = node_ex false tuple_literal as'

  -- A literal whose type agrees with that of the tuples is told by the numbers of its components.
  pub literal-told : Sound g Literal → Typed g env → IsTrue env.positions → IsTrue (is_some (meaning Literal env)) → (u : Ty) →
      type_of Literal g ≡ Some u → ((ts : Tys) → u ≡ compound a_tuple ts → AgreeEach ts ds) →
      IsTold (λ v. map code (items_of v)) Literal (tuple_dom ds) env
  literal-told o h p i u q j =
      let v = there (meaning Literal env) i in
      let w = literal-value (all_some (meanings as' env)) v.0 v.1 in
      let t = literal-type (all_some (types_of as' g)) u q in
      let k : IsTrue (are_of true env.types t.0 (to_list w.0)) =
      subst (λ z. IsTrue (is_of true env.types z (node a_tuple w.0))) t.1
      (subst (λ z. IsTrue (is_of true env.types u z)) w.1
      (subst (λ b. IsTrue (is_of b env.types u v.0)) (positive env.positions p) (o u q env h v.0 v.1))) in
      record {
        value = v.0;
        members = member_list (tuples f.parts);
        is_value = v.1;
        are_members = tuples-are-members ds env f;
        is_told = λ x m c. told t.0 w.0 v.0 w.1 (j t.0 t.1) k x m c;
      }
    where
      told : (ts : Tys) (ws : Values) (w : Value) → w ≡ node a_tuple ws → AgreeEach ts ds →
          IsTrue (are_of true env.types ts (to_list ws)) → (x : Value) → holds (member_list (tuples f.parts)) x ≡ true →
          map code (items_of x) ≡ map code (items_of w) → x ≡ w
      told ts ws w e j k x m c =
          let n : IsEnumerated (tuples f.parts) = tuples-enumerated ds env f in
          let y : Enumerated (tuples f.parts) = n.enumerated in
          let l : Listed (tuples f.parts) = y.listed in
          let us = tuple-member f.parts x (all-holds (member (tuples f.parts)) (member_list (tuples f.parts)) x l.members m) in
          us.1
          ∙ ap (node a_tuple) (each-told env ds f.parts ts us.0 ws (positive env.positions p) f.atoms f.are_parts j us.2 k
          (sym (ap (λ z. map code (items_of z)) us.1) ∙ c ∙ ap (λ z. map code (items_of z)) e))
          ∙ sym e

-- ---- members of relations

-- The type of a term that is asked agrees with that of the tuples.
pub related-agrees : (o : Option Ty) (ts : Tys) (t : Ty) →
    and_then (all_some (o ∷ Some (compound a_relation ts) ∷ [])) (type_of_op (binary Op2.Member)) ≡ Some t →
    (u : Ty) × (o ≡ Some u) × Agreed u (tuple_ty ts)
related-agrees None ts t q = (any_ty, cc, cc)
related-agrees (Some u) ts t q = (u, refl, go (join u (tuple_ty ts)) q)
  where
    go : (p : Option Ty) → option_map (λ v. bool_ty) p ≡ Some t → is_some p ≡ true
    go None q = cc
    go (Some v) q = refl
