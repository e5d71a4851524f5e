-- What views of sets of judged domains offer are views of judged domains.
use Rattle.std.proofs.Common.{◌≡◌, refl, sym, ap, ◌∙◌, Bool, true, false, ◌&&◌, if◌then◌else◌, List, [], ◌∷◌, Some, None}
use Rattle.ess_semantics.specs.declared.words.Key.{Key}
use Rattle.ess_semantics.specs.declared.words.ReprKind.{ReprKind}
use Rattle.ess_semantics.specs.Values.{Text, Value}
use Rattle.ess_semantics.specs.Kinds.{has_key, has_dummy, fits, all_fit}
use Rattle.ess_semantics.specs.DomainJudgements.{is_finite, are_finite, needs_known_slots, all_need_known_slots}
use Rattle.ess_semantics.specs.Domains.{sets}
use Rattle.ess_semantics.specs.Membership.{no_negative_attribute}
use Rattle.ess_semantics.specs.Trees.{Mark, Repr, Reprs, repr, no_reprs, more_reprs, Exs, seen_ex, no_exs, more_exs, Dom, Doms, bool_dom, int_dom, name_dom, tuple_dom, record_dom, matrix_dom, set_dom, mset_dom, function_dom, relation_dom, partition_dom, no_doms, more_doms}
use Rattle.ess_semantics.specs.Substitution.{NamesAreExs, NamesAreDom, NamesAreDoms}
use Rattle.ess_semantics.specs.Meaning.{Env, as_int, domain_of}
use Rattle.ess_semantics.proofs.Tests.{and-left, and-right}
use Rattle.ess_repr_laws.specs.StructureMeaning.{AllNumbers}
use Rattle.ess_repr_declare_laws.proofs.SizeNumbers.{not_below}
use Rattle.ess_repr_declare_laws.proofs.ChildDomainsDenoted.{SetOf, set-of}
use Rattle.ess_repr_structure_laws.specs.DomainNumbers.{NumbersIn, AllNumbersIn}
use Rattle.ess_repr_structure_laws.specs.Laws.{NamesApart, JudgedView}
use Rattle.ess_rules_laws.specs.Listings.{Alternative}
use Rattle.ess_rules_laws.proofs.Simulation.{any, but}
use Rattle.ess_rules_laws.proofs.Agreement.{agree-but, domain-agree}
use Rattle.ess_rules_laws.proofs.RuleAnswers.{meaning-behind}
use Rattle.ess_kind_rules_laws.specs.ViewListings.{listing_of}
use Rattle.ess_kind_sizes_laws.proofs.SetListings.{OfEach, by-kind}
use Rattle.ess_kind_sizes_laws.proofs.ViewsBehind.{some-of}
use Rattle.ess_kind_steps_laws.specs.JudgedItems.{JudgedSeen, IsJudged, with_value, ItemsOfSetsAreJudged}

-- ---- numbers of a domain behind a new name

module _ (x : Text) (v : Value) (env : Env) where
  each-behind : (es : Exs) → NamesAreExs (but x) any es → AllNumbers es env → AllNumbers es (with_value x v env)
  each-behind no_exs u h = tt
  each-behind (more_exs e es) u h = (
    λ z q. meaning-behind x v e env u.0 ∙ h.0 z (sym (ap as_int (meaning-behind x v e env u.0)) ∙ q),
    each-behind es u.1 h.1,
  )

  mutual
    numbers-behind : (d : Dom) → NamesAreDom (but x) any d → NumbersIn d env → NumbersIn d (with_value x v env)
    numbers-behind bool_dom u h = tt
    numbers-behind (int_dom rs es) u h = each-behind es u h
    numbers-behind (name_dom a) u h = tt
    numbers-behind (tuple_dom ds) u h = all-behind ds u h
    numbers-behind (record_dom fs ds) u h = all-behind ds u h
    numbers-behind (matrix_dom is d) u h = (all-behind is u.0 h.0, numbers-behind d u.1 h.1)
    numbers-behind (set_dom ms es d) u h = (each-behind es u.0 h.0, numbers-behind d u.1 h.1)
    numbers-behind (mset_dom ms es d) u h = (each-behind es u.0 h.0, numbers-behind d u.1 h.1)
    numbers-behind (function_dom ms es d c) u h = (each-behind es u.0 h.0, numbers-behind d u.1 h.1, numbers-behind c u.2 h.2)
    numbers-behind (relation_dom ms es ds) u h = (each-behind es u.0 h.0, all-behind ds u.1 h.1)
    numbers-behind (partition_dom ms es d) u h = (each-behind es u.0 h.0, numbers-behind d u.1 h.1)

    all-behind : (ds : Doms) → NamesAreDoms (but x) any ds → AllNumbersIn ds env → AllNumbersIn ds (with_value x v env)
    all-behind no_doms u h = tt
    all-behind (more_doms d ds) u h = (numbers-behind d u.0 h.0, all-behind ds u.1 h.1)

  domain-behind : (d : Dom) → NamesAreDom (but x) any d → domain_of d (with_value x v env) ≡ domain_of d env
  domain-behind d u =
      domain-agree env.positions env.types env.cells (but x) d env.vals ((x, v) ∷ env.vals) u (agree-but x v env.vals)

-- ---- finite domains have known slots

both : (a b : Bool) → a ≡ true → b ≡ true → a && b ≡ true
both true b h k = k
both false b h k = cc

mutual
  finite-known : (d : Dom) → is_finite d ≡ true → needs_known_slots d ≡ true
  finite-known bool_dom h = h
  finite-known (int_dom rs es) h = refl
  finite-known (name_dom a) h = h
  finite-known (tuple_dom ds) h = all-known ds h
  finite-known (record_dom fs ds) h = all-known ds h
  finite-known (matrix_dom is d) h =
      both (are_finite is) (needs_known_slots d) (and-left (are_finite is) (is_finite d) h)
      (finite-known d (and-right (are_finite is) (is_finite d) h))
  finite-known (set_dom ms es d) h = h
  finite-known (mset_dom ms es d) h = h
  finite-known (function_dom ms es d c) h =
      both (is_finite d) (needs_known_slots c) (and-left (is_finite d) (is_finite c) h)
      (finite-known c (and-right (is_finite d) (is_finite c) h))
  finite-known (relation_dom ms es ds) h = h
  finite-known (partition_dom ms es d) h = h

  all-known : (ds : Doms) → are_finite ds ≡ true → all_need_known_slots ds ≡ true
  all-known no_doms h = refl
  all-known (more_doms d ds) h =
      both (needs_known_slots d) (all_need_known_slots ds) (finite-known d (and-left (is_finite d) (are_finite ds) h))
      (all-known ds (and-right (is_finite d) (are_finite ds) h))

-- ---- fitting children

-- The only child fits where a representation with it does.
only-child : (r : Repr) (d : Dom) (b : Bool) →
    elim (if b then Some (d ∷ []) else None) [ None ↦ false | Some ds ↦ all_fit (more_reprs r no_reprs) ds ] ≡ true →
    fits r d ≡ true
only-child r d true h = and-left (fits r d) true h
only-child r d false h = cc

-- An atom with a dummy is one of a cell.
dummy-fits : (d : Dom) (b : Bool) → has_dummy d ≡ b →
    elim (if b then Some [] else None) [ None ↦ false | Some ds ↦ all_fit no_reprs ds ] ≡ true →
    fits (repr ReprKind.Atom no_reprs) d ≡ true
dummy-fits d false q h = cc
dummy-fits (int_dom rs es) true q h = refl
dummy-fits (name_dom a) true q h = refl
dummy-fits bool_dom true q h = refl
dummy-fits (tuple_dom ds) true q h = cc
dummy-fits (record_dom fs ds) true q h = cc
dummy-fits (matrix_dom is d) true q h = cc
dummy-fits (set_dom ms es d) true q h = cc
dummy-fits (mset_dom ms es d) true q h = cc
dummy-fits (function_dom ms es d c) true q h = cc
dummy-fits (relation_dom ms es ds) true q h = cc
dummy-fits (partition_dom ms es d) true q h = cc

-- ---- items

module _ (x : Text) (v : Value) (ms : List Mark) (es : Exs) (d : Dom) (env : Env) (unused : NamesAreDom (but x) any d) where
  -- The inner domain is judged, with a representation that fits it.
  inner-judged : (r s : Repr) → fits s d ≡ true → JudgedSeen r (set_dom ms es d) env → JudgedSeen s d (with_value x v env)
  inner-judged r s f j =
      let w : JudgedView env j.names r (set_dom ms es d) j.domain = j.judged in
      let p : SetOf sets ms es d env j.domain = set-of sets ms es d env j.domain w.denotes in
      let a : NamesApart j.names (set_dom ms es d) = w.apart in
      let o = w.orderly in
      let n = w.numbers in
      let free = a.free in
      record {
        names = j.names;
        differ = j.differ;
        domain = p.inner;
        judged = record {
          orderly = o.1;
          known = finite-known d w.known;
          fit = f;
          denotes = domain-behind x v env d unused ∙ p.part;
          plain = and-right (not_below p.keys) (no_negative_attribute p.inner) (ap no_negative_attribute p.whole ∙ w.plain);
          numbers = numbers-behind x v env d unused n.1;
          apart = record { names = a.names; apart = a.apart; free = free.1 };
        };
      }

  -- What is said of each item.
  abbrev Item : ReprKind → Reprs → List Text → Alternative → Type 0
  Item k rs ns a = JudgedSeen (repr k rs) (set_dom ms es d) env → IsJudged a.item (with_value x v env)

  child-judged : (k : ReprKind) (r : Repr) → (fits (repr k (more_reprs r no_reprs)) (set_dom ms es d) ≡ true → fits r d ≡ true) →
      JudgedSeen (repr k (more_reprs r no_reprs)) (set_dom ms es d) env → JudgedSeen r d (with_value x v env)
  child-judged k r f j =
      let w : JudgedView env j.names (repr k (more_reprs r no_reprs)) (set_dom ms es d) j.domain = j.judged in
      inner-judged (repr k (more_reprs r no_reprs)) r (f w.fit) j

  items : (js : Exs) → OfEach x ms es d js Item
  items js = record {
    occurrences = λ n j. tt;
    all = λ r ns j. child-judged ReprKind.Explicit r (only-child r d (has_key Key.Size ms)) j;
    marked = λ r m ns j. child-judged ReprKind.ExplicitVarSizeWithMarker r (and-left (fits r d) true) j;
    flagged = λ r m ns j. child-judged ReprKind.ExplicitVarSizeWithFlags r (and-left (fits r d) true) j;
    dummies = λ t j.
        let w : JudgedView env j.names (repr ReprKind.ExplicitVarSizeWithDummy no_reprs) (set_dom ms es d) j.domain = j.judged in
        inner-judged (repr ReprKind.ExplicitVarSizeWithDummy no_reprs) (repr ReprKind.Atom no_reprs)
        (dummy-fits d (has_dummy d) refl w.fit) j;
  }

-- Items are judged.
pub items-of-sets-are-judged : ItemsOfSetsAreJudged
items-of-sets-are-judged x y zs (seen_ex (repr k rs) (set_dom ms es d) ns js) a q i u env j v =
    some-of (listing_of k x y zs (seen_ex (repr k rs) (set_dom ms es d) ns js)) (Item x v ms es d env u.0.1 k rs ns) a
    (by-kind x ms es d js (Item x v ms es d env u.0.1) (items x v ms es d env u.0.1 js) y zs k rs ns) q j
items-of-sets-are-judged x y zs _ a q i u env j v = cc
