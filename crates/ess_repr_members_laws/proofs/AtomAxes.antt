-- The members of axes: the numbers from 1 on, and the members of atoms as numbers.
use Rattle.std.specs.Prelude.{is_some, IsTrue}
use Rattle.std.specs.Cmp.{int_cmp_is}
use Rattle.std.proofs.Common.{◌≡◌, refl, sym, ap, ◌∙◌, subst, ℕ, zero, suc, Bool, true, false, ◌&&◌, [], ◌∷◌, map, ℤ, pos, ◌+ℤ◌, ◌-ℤ◌, Option, Some, None, option_map, arith}
use Rattle.std.proofs.lemmas.Int.{ints}
use Rattle.std.proofs.lemmas.List.{append-nil}
use Rattle.std.specs.Ordering.{is_lt}
use Rattle.std.specs.declared.cmp.Ordering.TheVariants.{Less}
use Rattle.ess_semantics.specs.declared.words.ReprKind.{ReprKind}
use Rattle.ess_semantics.specs.Lists.{and_then, each_of, list_or_none}
use Rattle.ess_semantics.specs.Values.{Text, itself}
use Rattle.ess_semantics.specs.Collections.{rises, sorted_once}
use Rattle.ess_semantics.specs.Numbers.{natural, run_from, one_to}
use Rattle.ess_semantics.specs.Domains.{Domain, Domains, booleans, integers, named, no_domains, more_domains, domain_list, interval, numbers_up, items_from, members, between}
use Rattle.ess_semantics.specs.Sizes.{bound}
use Rattle.ess_semantics.specs.Tables.{code}
use Rattle.ess_semantics.specs.Kinds.{dom_list, is_atom, are_atoms}
use Rattle.ess_semantics.specs.Trees.{Ex, Dom, Doms, bool_dom, int_dom, name_dom, tuple_dom, record_dom, matrix_dom, set_dom, mset_dom, function_dom, relation_dom, partition_dom, no_doms, more_doms}
use Rattle.ess_semantics.specs.Layers.{codes_of, as_numbers, as_cell}
use Rattle.ess_semantics.specs.ScalarLayers.{atom_layer}
use Rattle.ess_semantics.specs.SetLayers.{dummy_of}
use Rattle.ess_semantics.specs.Representations.{layer}
use Rattle.ess_semantics.specs.DeclaredTables.{axis_members}
use Rattle.ess_semantics.specs.Meaning.{Env, TypeEntry, with_span, named_domain, type_entry, domain_of, domains_of}
use Rattle.ess_semantics.proofs.Tests.{and-left, and-right}
use Rattle.ess_semantics.proofs.Sorting.{sorted_once-itself}
use Rattle.ess_repr_laws.specs.StructureParts.{upto}
use Rattle.ess_repr_laws.specs.Finite.{FiniteAtom}
use Rattle.ess_repr_laws.proofs.DomainForms.{atom-finite}
use Rattle.ess_repr_laws.proofs.DenotedDomains.{domain-formed}
use Rattle.ess_repr_declare_laws.specs.SizeTerms.{listed_ex}
use Rattle.ess_repr_declare_laws.specs.DeclaredTrees.{axis_dom}
use Rattle.ess_repr_declare_laws.proofs.Readings.{Reads}
use Rattle.ess_repr_declare_laws.proofs.SizeNumbers.{mapped, chained, there}
use Rattle.ess_repr_declare_laws.proofs.IntSizes.{span-long, name-reads}
use Rattle.ess_repr_members_laws.proofs.TableLists.{Ranged}

-- ---- numbers from 1 on

rising : (a : ℤ) (n : ℕ) → rises itself (numbers_up a n) ≡ true
rising a zero = refl
rising a (suc zero) = refl
rising a (suc (suc n)) =
    ap (λ o. is_lt o && rises itself (numbers_up (a +ℤ pos 1) (suc n))) (sym (int_cmp_is a (a +ℤ pos 1) Less (omega (arith, ints))))
    ∙ rising (a +ℤ pos 1) (suc n)

-- A range holds the numbers from its lower to its upper bound.
pub between-members : (x y : ℤ) → members (between x y) ≡ Some (interval x y)
between-members x y =
    ap (λ l. Some (sorted_once l)) (append-nil (interval x y))
    ∙ ap Some (sorted_once-itself (interval x y) (rising x (natural ((y -ℤ x) +ℤ pos 1))))

up-codes : (k n : ℕ) → map code (numbers_up (pos k) n) ≡ run_from k n
up-codes k zero = refl
up-codes k (suc n) = ap (λ z. pos k ∷ map code (numbers_up z n)) next ∙ ap (λ l. pos k ∷ l) (up-codes (suc k) n)
  where
    next : pos k +ℤ pos 1 ≡ pos (suc k)
    next = omega (arith, ints)

items-codes : (t : Text) (k n : ℕ) → map code (items_from t k n) ≡ run_from k n
items-codes t k zero = refl
items-codes t k (suc n) = ap (λ l. pos k ∷ l) (items-codes t (suc k) n)

-- There are n numbers from 1 to n.
from_1-many : (n : ℕ) → natural ((pos n -ℤ pos 1) +ℤ pos 1) ≡ n
from_1-many n = let z : (pos n -ℤ pos 1) +ℤ pos 1 ≡ pos n = omega (arith, ints) in ap natural z

interval-codes : (n : ℕ) → map code (interval (pos 1) (pos n)) ≡ one_to n
interval-codes n = ap (λ k. map code (numbers_up (pos 1) k)) (from_1-many n) ∙ up-codes 1 n

pub one_to-members : (n : ℕ) → axis_members (Some (between (pos 1) (pos n))) ≡ Some (one_to n)
one_to-members n = ap (option_map (map code)) (between-members (pos 1) (pos n)) ∙ ap Some (interval-codes n)

truth-members : axis_members (Some (between (pos 0) (pos 1))) ≡ Some (pos 0 ∷ pos 1 ∷ [])
truth-members = ap (option_map (map code)) (between-members (pos 0) (pos 1))

-- ---- named types

-- A named type of n values, or its positions.
pub record NamedAs (e : Domain) (n : ℕ) : Type 0 where
  pub size : bound e ≡ n
  pub coded : codes_of e ≡ one_to n
  pub numbers : as_numbers e ≡ between (pos 1) (pos n)
  pub celled : as_cell e ≡ between (pos 1) (pos n)
  pub dummy : dummy_of e ≡ Some (pos n +ℤ pos 1)
  pub layered : layer ReprKind.Atom e ≡ Some (atom_layer e)

pub named-as : (env : Env) (a : Text) (e : Domain) → domain_of (name_dom a) env ≡ Some e → (n : ℕ) × NamedAs e n
named-as env a e h = go env.positions (type_entry env.types a) h
  where
    of-type : (t : Text) (n : ℕ) → NamedAs (named t n) n
    of-type t n = record { size = refl; coded = items-codes t 1 n; numbers = refl; celled = refl; dummy = refl; layered = refl }

    of-positions : (n : ℕ) → NamedAs (between (pos 1) (pos n)) n
    of-positions n = record {
      size = span-long (pos 1) (pos n) ∙ from_1-many n;
      coded = ap (λ o. map code (list_or_none o)) (between-members (pos 1) (pos n)) ∙ interval-codes n;
      numbers = refl;
      celled = refl;
      dummy = refl;
      layered = refl;
    }

    go : (b : Bool) (o : Option TypeEntry) → named_domain b a o ≡ Some e → (n : ℕ) × NamedAs e n
    go b None k = cc
    go true (Some t) k =
        let q : between (pos 1) (pos t.count) ≡ e = cc in (t.count, subst (λ x. NamedAs x t.count) q (of-positions t.count))
    go false (Some t) k =
        let q : named a t.count ≡ e = cc in (t.count, subst (λ x. NamedAs x t.count) q (of-type a t.count))

-- ---- axes over atoms

-- From 1 to a term.
pub upto-denotes : (env : Env) (e : Ex) (n : ℕ) → Reads e env (pos n) → domain_of (upto e) env ≡ Some (between (pos 1) (pos n))
upto-denotes env e n h = ap (λ o. option_map integers (and_then o (λ m. with_span (Some (pos 1)) (Some m) (Some [])))) h

-- The number of values of a named type is read.
pub values-read : (env : Env) (a : Text) (e : Domain) (n : ℕ) → domain_of (name_dom a) env ≡ Some e → NamedAs e n →
    Reads (listed_ex (name_dom a)) env (pos n)
values-read env a e n h k = name-reads env a e h ∙ ap (λ m. Some (pos m)) k.size

-- Members that are known are those of the axis.
listed-codes : (e : Domain) → IsTrue (is_some (members e)) → axis_members (Some e) ≡ Some (codes_of e)
listed-codes e h =
    let t = there (members e) h in
    ap (option_map (map code)) t.1 ∙ sym (ap (λ o. Some (map code (list_or_none o))) t.1)

-- The axis over an atom has the members of the atom as numbers.
pub atom-axis : (env : Env) (d : Dom) (e : Domain) → is_atom d ≡ true → domain_of d env ≡ Some e →
    axis_members (domain_of (axis_dom d) env) ≡ Some (codes_of e)
atom-axis env bool_dom e a h = let q : booleans ≡ e = cc in truth-members ∙ ap (λ x. Some (codes_of x)) q
atom-axis env (int_dom rs es) e a h =
    let f : FiniteAtom e = atom-finite (int_dom rs es) e (domain-formed (int_dom rs es) env e tt h) a in
    ap axis_members h ∙ listed-codes e f.1
atom-axis env (name_dom x) e a h =
    let k = named-as env x e h in
    ap axis_members (upto-denotes env (listed_ex (name_dom x)) k.0 (values-read env x e k.0 h k.1))
    ∙ one_to-members k.0 ∙ sym (ap Some k.1.coded)
atom-axis env (tuple_dom ds) e a h = cc
atom-axis env (record_dom fs ds) e a h = cc
atom-axis env (matrix_dom is d) e a h = cc
atom-axis env (set_dom ms es d) e a h = cc
atom-axis env (mset_dom ms es d) e a h = cc
atom-axis env (function_dom ms es d c) e a h = cc
atom-axis env (relation_dom ms es ds) e a h = cc
atom-axis env (partition_dom ms es d) e a h = cc

-- So have those over several.
pub atom-axes : (env : Env) (ds : Doms) (es : Domains) → are_atoms ds ≡ true → domains_of ds env ≡ Some es →
    Ranged env (map axis_dom (dom_list ds)) (map codes_of (domain_list es))
atom-axes env no_doms es a h = let q : no_domains ≡ es = cc in ap (λ x. Some (map codes_of (domain_list x))) q
atom-axes env (more_doms d ds) es a h =
    let c = chained (domain_of d env) (λ x. option_map (more_domains x) (domains_of ds env)) es h in
    let m = mapped (more_domains c.0) (domains_of ds env) es c.2 in
    ap (λ o. and_then o (λ y. option_map (λ ys. y ∷ ys) (each_of (map axis_dom (dom_list ds)) (λ b. axis_members (domain_of b env)))))
    (atom-axis env d c.0 (and-left (is_atom d) (are_atoms ds) a) c.1)
    ∙ ap (option_map (λ ys. codes_of c.0 ∷ ys)) (atom-axes env ds m.0 (and-right (is_atom d) (are_atoms ds) a) m.1)
    ∙ ap (λ x. Some (map codes_of (domain_list x))) m.2
