-- Structures are total, whatever reserved names are bound, where the numbers of the domain are.
use Rattle.std.proofs.Common.{◌≡◌, refl, sym, subst, ℕ, suc, ◌*◌, ◌^◌, ◌<◌, false, List, ◌∷◌, pos}
use Rattle.ess_semantics.specs.Values.{Text}
use Rattle.ess_semantics.specs.Order.{same_text}
use Rattle.ess_semantics.specs.Trees.{Mark, Repr, name_pat, tuple_pat, Ex, Exs, no_exs, more_exs, Gens, no_gens, over, from, cond, Dom, Doms, bool_dom, int_dom, name_dom, tuple_dom, record_dom, matrix_dom, set_dom, mset_dom, function_dom, relation_dom, partition_dom, no_doms, more_doms}
use Rattle.ess_semantics.specs.Meaning.{Env, meaning, domain_of, members_in}
use Rattle.ess_semantics.specs.Totality.{Total, TotalAll, TotalUnder, TotalDom, TotalDoms}
use Rattle.ess_semantics.proofs.Tests.{and-left}
use Rattle.ess_guard_laws.proofs.Behind.{safe-total}
use Rattle.ess_guard_laws.proofs.MetRows.{each-of-always, each-in-always}
use Rattle.ess_guard_laws.proofs.Safe.{is_safe}
use Rattle.ess_repr_laws.specs.Structure.{structure}
use Rattle.ess_repr_laws.specs.StructureMeaning.{Bound, M}
use Rattle.ess_repr_declare_laws.specs.SizeTerms.{two_ex, times_ex, power_ex, next_ex, count_ex, listed_ex, occurrences_ex, bound_ex, product_ex, product_behind, size_terms}
use Rattle.ess_repr_declare_laws.proofs.Readings.{Reads, times-reads, next-reads, power-reads}
use Rattle.ess_repr_structure_laws.proofs.BuiltStructures as B
use Rattle.ess_repr_structure_laws.proofs.PickedNumbers.{occurrences-may}
use Rattle.ess_repr_structure_laws.proofs.BuiltStructures.{is_used, counts_nothing, BuiltOf}
use Rattle.ess_repr_structure_laws.proofs.BuiltAll.{structure-has}
use Rattle.ess_repr_structure_laws.proofs.DenotedParts.{Denotes, AllDenote, Natural, first-denotes, tuple-denotes, record-denotes, matrix-denotes, set-denotes, mset-denotes, function-denotes, relation-denotes, partition-denotes, range-natural, name-natural}
use Rattle.ess_repr_structure_laws.proofs.TotalSizes.{times-total, next-total, power-total, listed-total, count-total}

module _ (env0 : Env) (q : ℕ → Text) (q-apart : (m l : ℕ) → l < m → same_text (q m) (q l) ≡ false) where
  abbrev Names : Type 0
  Names = Bound env0 q q-apart

  abbrev N : Names → Env
  N = M env0 q q-apart

  -- The expression is total whatever reserved names are bound.
  abbrev pub T : Ex → Type 0
  T e = (bs : Names) → Total e (N bs)

  -- The size of a range or named type, and how often a member of a multiset occurs, whatever reserved names are bound.
  abbrev pub Sized : Dom → Type 0
  Sized (int_dom rs es) = (bs : Names) → Natural (count_ex rs es) (N bs)
  Sized (name_dom a) = (bs : Names) → Natural (listed_ex (name_dom a)) (N bs)
  Sized (mset_dom ms es d) = (bs : Names) → Natural (occurrences_ex ms es) (N bs)
  Sized _ = Unit {0}

  abbrev AllHave : Exs → Type 0
  AllHave = B.AllHave T

  abbrev Good : Dom → Type 0
  Good = B.Good T Sized

  abbrev AllGood : Doms → Type 0
  AllGood = B.AllGood T Sized

  -- ---- what structures are built of

  all-total : (es : Exs) → AllHave es → (bs : Names) → TotalAll es (N bs)
  all-total no_exs a bs = tt
  all-total (more_exs e es) a bs = (a.0 bs, all-total es a.1 bs)

  mutual
    dom-total : (d : Dom) → B.DomHas T d → (bs : Names) → TotalDom d (N bs)
    dom-total bool_dom h bs = tt
    dom-total (int_dom rs es) h bs = all-total es h bs
    dom-total (name_dom a) h bs = tt
    dom-total (tuple_dom ds) h bs = doms-total ds h bs
    dom-total (record_dom fs ds) h bs = doms-total ds h bs
    dom-total (matrix_dom is d) h bs = (doms-total is h.0 bs, dom-total d h.1 bs)
    dom-total (set_dom ms es d) h bs = (all-total es h.0 bs, dom-total d h.1 bs)
    dom-total (mset_dom ms es d) h bs = (all-total es h.0 bs, dom-total d h.1 bs)
    dom-total (function_dom ms es d c) h bs = (all-total es h.0 bs, dom-total d h.1 bs, dom-total c h.2 bs)
    dom-total (relation_dom ms es ds) h bs = (all-total es h.0 bs, doms-total ds h.1 bs)
    dom-total (partition_dom ms es d) h bs = (all-total es h.0 bs, dom-total d h.1 bs)

    doms-total : (ds : Doms) → B.DomsHave T ds → (bs : Names) → TotalDoms ds (N bs)
    doms-total no_doms h bs = tt
    doms-total (more_doms d ds) h bs = (dom-total d h.0 bs, doms-total ds h.1 bs)

  under-total : (gs : Gens) (e : Ex) → T e → B.GensHave q T (Unit {0}) gs → (bs : Names) → TotalUnder gs (N bs) (λ here. Total e here)
  under-total no_gens e t h bs = t bs
  under-total (over (name_pat a) d gs) e t h bs =
      subst (λ n. TotalUnder (over (name_pat n) d gs) (N bs) (λ here. Total e here)) (sym h.0.1)
      (dom-total d h.1 bs, each-of-always (members_in (domain_of d (N bs))) _ (λ v. under-total gs e t h.2 ((h.0.0, v) ∷ bs)))
  under-total (over (tuple_pat ps) d gs) e t h bs = absurd h
  under-total (from (name_pat a) x gs) e t h bs =
      subst (λ n. TotalUnder (from (name_pat n) x gs) (N bs) (λ here. Total e here)) (sym h.0.1)
      (h.1 bs, each-in-always (meaning x (N bs)) _ (λ v. under-total gs e t h.2 ((h.0.0, v) ∷ bs)))
  under-total (from (tuple_pat ps) x gs) e t h bs = absurd h
  under-total (cond x gs) e t h bs = (h.0 bs, λ w. under-total gs e t h.1 bs)

  -- ---- bounds

  -- The bound of a good domain is total, and reads a number.
  record BoundIs (e : Ex) (bs : Names) : Type 0 where
    total : Total e (N bs)
    natural : Natural e (N bs)

  power-is : (a b : Ex) (m n : ℕ) (bs : Names) → Reads a (N bs) (pos (suc m)) → Reads b (N bs) (pos n) → Total a (N bs) → Total b (N bs) →
      BoundIs (power_ex a b) bs
  power-is a b m n bs p r g h = record {
    total = power-total (N bs) a b m n p r g h;
    natural = record { number = suc m ^ n; reads = power-reads (N bs) a b m n p r };
  }

  -- A power of one more than a bound.
  next-power : (a b : Ex) (bs : Names) → BoundIs a bs → BoundIs b bs → BoundIs (power_ex (next_ex a) b) bs
  next-power a b bs g h =
      let x : Natural a (N bs) = g.natural in
      let y : Natural b (N bs) = h.natural in
      power-is (next_ex a) b x.number y.number bs (next-reads (N bs) a x.number x.reads) y.reads (next-total (N bs) a g.total) h.total

  two-power : (b : Ex) (bs : Names) → BoundIs b bs → BoundIs (power_ex two_ex b) bs
  two-power b bs h = let y : Natural b (N bs) = h.natural in power-is two_ex b 1 y.number bs refl y.reads tt h.total

  occurrences-total : (ms : List Mark) (es : Exs) → AllHave es → (bs : Names) → Total (occurrences_ex ms es) (N bs)
  occurrences-total ms es a bs = occurrences-may T ms es a (λ cs. tt) bs

  mutual
    bound-is : (d : Dom) → Good d → (bs : Names) → BoundIs (bound_ex d) bs
    bound-is bool_dom g bs = record { total = tt; natural = record { number = 2; reads = refl } }
    bound-is (int_dom rs es) g bs = record { total = count-total (N bs) rs es (all-total es g.1 bs); natural = g.0 bs }
    bound-is (name_dom a) g bs = record { total = listed-total (N bs) (name_dom a) tt; natural = g bs }
    bound-is (tuple_dom ds) g bs = product-is ds g bs
    bound-is (record_dom fs ds) g bs = product-is ds g bs
    bound-is (matrix_dom is d) g bs = next-power (bound_ex d) (product_ex is) bs (bound-is d g.1 bs) (product-is is g.0 bs)
    bound-is (set_dom ms es d) g bs = two-power (bound_ex d) bs (bound-is d g.1 bs)
    bound-is (mset_dom ms es d) g bs =
        next-power (occurrences_ex ms es) (bound_ex d) bs (record { total = occurrences-total ms es g.1 bs; natural = g.0 bs })
        (bound-is d g.2 bs)
    bound-is (function_dom ms es d c) g bs = next-power (bound_ex c) (bound_ex d) bs (bound-is c g.2 bs) (bound-is d g.1 bs)
    bound-is (relation_dom ms es ds) g bs = two-power (product_ex ds) bs (product-is ds g.1 bs)
    bound-is (partition_dom ms es d) g bs = next-power (bound_ex d) (bound_ex d) bs (bound-is d g.1 bs) (bound-is d g.1 bs)

    product-is : (ds : Doms) → AllGood ds → (bs : Names) → BoundIs (product_ex ds) bs
    product-is no_doms g bs = record { total = tt; natural = record { number = 1; reads = refl } }
    product-is (more_doms d ds) g bs = behind-is (bound_ex d) ds bs (bound-is d g.0 bs) g.1

    behind-is : (e : Ex) (ds : Doms) (bs : Names) → BoundIs e bs → AllGood ds → BoundIs (product_behind e ds) bs
    behind-is e no_doms bs h g = h
    behind-is e (more_doms d ds) bs h g =
        let b : BoundIs (bound_ex d) bs = bound-is d g.0 bs in
        let x : Natural e (N bs) = h.natural in
        let y : Natural (bound_ex d) (N bs) = b.natural in
        behind-is (times_ex e (bound_ex d)) ds bs (record {
          total = times-total (N bs) e (bound_ex d) h.total b.total;
          natural = record { number = x.number * y.number; reads = times-reads (N bs) e (bound_ex d) x.number y.number x.reads y.reads };
        }) g.1

  -- What structures are built of is total.
  built-total : BuiltOf q T Sized (Unit {0}) (Unit {0})
  built-total = record {
    truths = λ b bs. tt;
    zero = λ bs. tt;
    one = λ bs. tt;
    names = λ l bs. tt;
    nodes = λ b op es u a bs. safe-total b op es (N bs) (and-left (is_safe op) (counts_nothing op) u) (all-total es a bs);
    comps = λ e gs t h bs. under-total gs e t h bs;
    cells = λ b n es a h bs. all-total es a bs;
    bounds = λ d g bs. let b : BoundIs (bound_ex d) bs = bound-is d g bs in b.total;
    listed = λ a g bs. listed-total (N bs) (name_dom a) tt;
  }

  -- ---- domains

  -- The domain denotes one without attribute values below 0, and its numbers are total, whatever reserved names are bound.
  abbrev pub Able : Dom → Type 0
  Able d = (bs : Names) → Denotes d (N bs) × TotalDom d (N bs)

  abbrev AllAble : Doms → Type 0
  AllAble ds = (bs : Names) → AllDenote ds (N bs) × TotalDoms ds (N bs)

  all-have : (es : Exs) → ((bs : Names) → TotalAll es (N bs)) → AllHave es
  all-have no_exs t = tt
  all-have (more_exs e es) t = (λ bs. let z = t bs in z.0, all-have es (λ bs. let z = t bs in z.1))

  mutual
    pub able-good : (d : Dom) → Able d → Good d
    able-good bool_dom h = tt
    able-good (int_dom rs es) h = (λ bs. let z = h bs in range-natural rs es (N bs) z.0, all-have es (λ bs. let z = h bs in z.1))
    able-good (name_dom a) h = λ bs. let z = h bs in name-natural a (N bs) z.0
    able-good (tuple_dom ds) h = able-all-good ds (λ bs. let z = h bs in (tuple-denotes ds (N bs) z.0, z.1))
    able-good (record_dom fs ds) h = able-all-good ds (λ bs. let z = h bs in (record-denotes fs ds (N bs) z.0, z.1))
    able-good (matrix_dom is d) h = (
      able-all-good is (λ bs. let z = h bs in let p = matrix-denotes is d (N bs) z.0 in (p.0, z.1.0)),
      able-good d (λ bs. let z = h bs in let p = matrix-denotes is d (N bs) z.0 in (p.1, z.1.1)),
    )
    able-good (set_dom ms es d) h = (
      all-have es (λ bs. let z = h bs in z.1.0),
      able-good d (λ bs. let z = h bs in (set-denotes ms es d (N bs) z.0, z.1.1)),
    )
    able-good (mset_dom ms es d) h = (
      λ bs. let z = h bs in let p = mset-denotes ms es d (N bs) z.0 in p.0,
      all-have es (λ bs. let z = h bs in z.1.0),
      able-good d (λ bs. let z = h bs in let p = mset-denotes ms es d (N bs) z.0 in (p.1, z.1.1)),
    )
    able-good (function_dom ms es d c) h = (
      all-have es (λ bs. let z = h bs in z.1.0),
      able-good d (λ bs. let z = h bs in let p = function-denotes ms es d c (N bs) z.0 in (p.0, z.1.1)),
      able-good c (λ bs. let z = h bs in let p = function-denotes ms es d c (N bs) z.0 in (p.1, z.1.2)),
    )
    able-good (relation_dom ms es ds) h = (
      all-have es (λ bs. let z = h bs in z.1.0),
      able-all-good ds (λ bs. let z = h bs in (relation-denotes ms es ds (N bs) z.0, z.1.1)),
    )
    able-good (partition_dom ms es d) h = (
      all-have es (λ bs. let z = h bs in z.1.0),
      able-good d (λ bs. let z = h bs in (partition-denotes ms es d (N bs) z.0, z.1.1)),
    )

    able-all-good : (ds : Doms) → AllAble ds → AllGood ds
    able-all-good no_doms h = tt
    able-all-good (more_doms d ds) h = (
      able-good d (λ bs. let z = h bs in let p = first-denotes d ds (N bs) z.0 in (p.0, z.1.0)),
      able-all-good ds (λ bs. let z = h bs in let p = first-denotes d ds (N bs) z.0 in (p.1, z.1.1)),
    )

  -- The structure of such a domain is total.
  pub structure-total : (r : Repr) (d : Dom) (ns : List Text) (l : ℕ) (is : Exs) → Able d → AllHave is → T
      (structure q size_terms r d ns l is)
  structure-total r d ns l is h a = structure-has q T Sized built-total (λ r d ns es h a bs. tt) r d ns l is (able-good d h) a
