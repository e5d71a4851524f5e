-- A representation that fits a domain has room for its members.
use Rattle.std.proofs.Common.{◌≡◌, refl, sym, ◌∙◌, subst, Bool, true, false, ◌&&◌, ◌||◌, not, if◌then◌else◌, List, [], ◌∷◌, Some, None, inr}
use Rattle.ess_semantics.specs.declared.words.ReprKind.{ReprKind}
use Rattle.ess_semantics.specs.declared.words.Key.{Key}
use Rattle.ess_semantics.specs.Lists.{or_else}
use Rattle.ess_semantics.specs.Trees.{Mark, Repr, Reprs, repr, no_reprs, more_reprs, Dom, Doms, tuple_dom, record_dom, matrix_dom, set_dom, mset_dom, function_dom, relation_dom, partition_dom, no_doms, more_doms}
use Rattle.ess_semantics.specs.Domains.{Attribute, Domain, Domains, tuples, records, matrices, sets, msets, functions, relations, partitions, no_domains, more_domains, domain_list, attribute, has}
use Rattle.ess_semantics.specs.Sizes.{bound, child_relation, child_set, child_parts}
use Rattle.ess_semantics.specs.Kinds.{has_key, dom_list, is_atom, is_one_cell, has_dummy, are_atoms, is_atom_tuple, child_relation_form, child_set_form, child_parts_form, fits, all_fit}
use Rattle.ess_repr_laws.specs.Rooms.{Roomy, AllRoomy, FunctionRoom}
use Rattle.ess_repr_laws.specs.Finite.{FiniteAtoms, Enumerated, Finite}
use Rattle.ess_semantics.proofs.Tests.{and-left, and-right}
use Rattle.ess_repr_laws.proofs.Bounds.{finite-bounded}
use Rattle.ess_repr_laws.proofs.DomainForms.{AllFormed, AllKnown, Formed, Known, Marked, atom-finite, atoms-finite, finite-known, formed-same, of-dummy, one-cell, same_form}
use Rattle.ess_repr_laws.proofs.ChildForms.{relation-formed, relation-known, room, set-known, sizes-marked}

-- ---- one layer

-- the only child, and none
with-only : (k : ReprKind) (d e : Domain) → ((r : Repr) → Roomy r e → Roomy (repr k (more_reprs r no_reprs)) d) → (rs : Reprs) → AllRoomy rs (e ∷ []) → Roomy (repr k rs) d
with-only k d e f no_reprs a = absurd a
with-only k d e f (more_reprs r no_reprs) a = f r a.0
with-only k d e f (more_reprs r (more_reprs s ss)) a = absurd a.1

with-none : (k : ReprKind) (d : Domain) → Roomy (repr k no_reprs) d → (rs : Reprs) → AllRoomy rs [] → Roomy (repr k rs) d
with-none k d h no_reprs a = h
with-none k d h (more_reprs r rs) a = absurd a

if-fit : (b : Bool) (ds : List Dom) (rs : Reprs) → elim (if b then Some ds else None) [ None ↦ false | Some ds ↦ all_fit rs ds ] ≡ true → (b ≡ true) × (all_fit rs ds ≡ true)
if-fit true ds rs h = (refl, h)
if-fit false ds rs h = cc

abbrev EachFormed : List Dom → List Domain → Type 0
EachFormed [] [] = Unit {0}
EachFormed (d ∷ ds) (e ∷ es) = Formed d e × Known e × EachFormed ds es
EachFormed _ es = ⊥

each-formed : (ds : Doms) (es : Domains) → AllFormed ds es → AllKnown es → EachFormed (dom_list ds) (domain_list es)
each-formed no_doms no_domains f k = tt
each-formed (more_doms d ds) (more_domains e es) f k = (f.0, k.0, each-formed ds es f.1 k.1)
each-formed no_doms (more_domains e es) f k = absurd f
each-formed (more_doms d ds) no_domains f k = absurd f

tuple-atoms : (d : Dom) (e : Domain) → Formed d e → same_form d e ≡ true → is_atom_tuple d ≡ true → (es : Domains) × (e ≡ tuples es) × FiniteAtoms es
tuple-atoms (tuple_dom ds) (tuples es) f s a = (es, refl, atoms-finite ds es f a)
tuple-atoms d e f s a = cc

function-room : (ms : List Mark) (ks : List Attribute) (e : Domain) → Marked ms ks → (has_key Key.Total ms ≡ true → Enumerated e) → Finite e → FunctionRoom ks e
function-room ms ks e m t f = record {
  total = λ h. let g = sym m.same ∙ h in (m.total g, t g);
  bounded = λ h. finite-bounded e f;
}

step : (k : ReprKind) (rs : Reprs) (d : Dom) (e : Domain) → Formed d e → same_form d e ≡ true → Known e → fits (repr k rs) d ≡ true →
    ((ds : List Dom) (es : List Domain) → all_fit rs ds ≡ true → EachFormed ds es → AllRoomy rs es) → Roomy (repr k rs) e
step ReprKind.Atom rs d e f s k h ih = let x = if-fit (is_one_cell d) [] rs h in with-none ReprKind.Atom e (one-cell d e f s x.0) rs (ih [] [] x.1 tt)
step ReprKind.Tuple rs (tuple_dom ds) (tuples es) f s k h ih = ih (dom_list ds) (domain_list es) h (each-formed ds es f k)
step ReprKind.Rec rs (record_dom fs ds) (records gs es) f s k h ih = ih (dom_list ds) (domain_list es) h (each-formed ds es f k)
step ReprKind.Matrix rs (matrix_dom is d) (matrices js e) f s k h ih = with-only ReprKind.Matrix (matrices js e) e (λ r x. (k.0, x)) rs (ih (d ∷ []) (e ∷ []) h (f.2, k.1, tt))
step ReprKind.Occurrence rs (set_dom ms es d) (sets ks e) f s k h ih = let x = if-fit (is_atom d) [] rs h in with-none ReprKind.Occurrence (sets ks e) (atom-finite d e f.1 x.0) rs (ih [] [] x.1 tt)
step ReprKind.Explicit rs (set_dom ms es d) (sets ks e) f s k h ih =
    let x = if-fit (has_key Key.Size ms) (d ∷ []) rs h in let m = f.0 in with-only ReprKind.Explicit (sets ks e) e (λ r y. (m.size x.0, y)) rs (ih (d ∷ []) (e ∷ []) x.1 (f.1, k.1, tt))
step ReprKind.ExplicitVarSizeWithMarker rs (set_dom ms es d) (sets ks e) f s k h ih = with-only ReprKind.ExplicitVarSizeWithMarker (sets ks e) e (λ r y. (room ks e k.0, y)) rs (ih (d ∷ []) (e ∷ []) h (f.1, k.1, tt))
step ReprKind.ExplicitVarSizeWithFlags rs (set_dom ms es d) (sets ks e) f s k h ih = with-only ReprKind.ExplicitVarSizeWithFlags (sets ks e) e (λ r y. (room ks e k.0, y)) rs (ih (d ∷ []) (e ∷ []) h (f.1, k.1, tt))
step ReprKind.ExplicitVarSizeWithDummy rs (set_dom ms es d) (sets ks e) f s k h ih =
    let x = if-fit (has_dummy d) [] rs h in let y = of-dummy d e f.1 (formed-same d e f.1) x.0 in with-none ReprKind.ExplicitVarSizeWithDummy (sets ks e) (y.0, inr (finite-bounded e y.1)) rs (ih [] [] x.1 tt)
step ReprKind.MSetOccurrence rs (mset_dom ms es d) (msets ks e) f s k h ih = let x = if-fit (is_atom d) [] rs h in with-none ReprKind.MSetOccurrence (msets ks e) (atom-finite d e f.2 x.0, k.0) rs (ih [] [] x.1 tt)
step ReprKind.MSetExplicitWithRepetition rs (mset_dom ms es d) (msets ks e) f s k h ih = with-only ReprKind.MSetExplicitWithRepetition (msets ks e) e (λ r y. (y, (k.0, room ks e k.1))) rs (ih (d ∷ []) (e ∷ []) h (f.2, k.2, tt))
step ReprKind.MSetExplicitWithFlags rs (mset_dom ms es d) (msets ks e) f s k h ih = with-only ReprKind.MSetExplicitWithFlags (msets ks e) e (λ r y. (y, (k.0, room ks e k.1))) rs (ih (d ∷ []) (e ∷ []) h (f.2, k.2, tt))
step ReprKind.Function1D rs (function_dom ms es d c) (functions ks e g) f s k h ih =
    let x = if-fit (has_key Key.Total ms && is_atom d) (c ∷ []) rs h in let m = f.0 in
    with-only ReprKind.Function1D (functions ks e g) g (λ r y. (atom-finite d e f.2 (and-right (has_key Key.Total ms) (is_atom d) x.0), m.total (and-left (has_key Key.Total ms) (is_atom d) x.0), y)) rs (ih (c ∷ []) (g ∷ []) x.1 (f.3, k.1, tt))
step ReprKind.Function1DPartial rs (function_dom ms es d c) (functions ks e g) f s k h ih =
    let x = if-fit (is_atom d) (c ∷ []) rs h in with-only ReprKind.Function1DPartial (functions ks e g) g (λ r y. (atom-finite d e f.2 x.0, y)) rs (ih (c ∷ []) (g ∷ []) x.1 (f.3, k.1, tt))
step ReprKind.FunctionND rs (function_dom ms es d c) (functions ks e g) f s k h ih =
    let x = if-fit (has_key Key.Total ms && is_atom_tuple d) (c ∷ []) rs h in let m = f.0 in
    let t = tuple-atoms d e f.2 (formed-same d e f.2) (and-right (has_key Key.Total ms) (is_atom_tuple d) x.0) in
    subst (λ e. Roomy (repr ReprKind.FunctionND rs) (functions ks e g)) (sym t.1)
    (with-only ReprKind.FunctionND (functions ks (tuples t.0) g) g (λ r y. (t.2, m.total (and-left (has_key Key.Total ms) (is_atom_tuple d) x.0), y)) rs (ih (c ∷ []) (g ∷ []) x.1 (f.3, k.1, tt)))
step ReprKind.FunctionNDPartial rs (function_dom ms es d c) (functions ks e g) f s k h ih =
    let x = if-fit (is_atom_tuple d) (c ∷ []) rs h in
    let t = tuple-atoms d e f.2 (formed-same d e f.2) x.0 in
    subst (λ e. Roomy (repr ReprKind.FunctionNDPartial rs) (functions ks e g)) (sym t.1) (with-only ReprKind.FunctionNDPartial (functions ks (tuples t.0) g) g (λ r y. (t.2, y)) rs (ih (c ∷ []) (g ∷ []) x.1 (f.3, k.1, tt)))
step ReprKind.FunctionAsRelation rs (function_dom ms es d c) (functions ks e g) f s k h ih =
    with-only ReprKind.FunctionAsRelation (functions ks e g) (child_relation ks e g) (λ r y. (function-room ms ks e f.0 f.1 k.0, y)) rs
    (ih (child_relation_form ms d c ∷ []) (child_relation ks e g ∷ []) h (relation-formed ms ks d c e g f.0 f.2 f.3, relation-known ms ks e g f.0 k.0 k.1, tt))
step ReprKind.RelationAsMatrix rs (relation_dom ms es ds) (relations ks gs) f s k h ih = let x = if-fit (are_atoms ds) [] rs h in with-none ReprKind.RelationAsMatrix (relations ks gs) (atoms-finite ds gs f.1 x.0) rs (ih [] [] x.1 tt)
step ReprKind.RelationAsSet rs (relation_dom ms es ds) (relations ks gs) f s k h ih =
    let m = f.0 in
    with-only ReprKind.RelationAsSet (relations ks gs) (child_set ks gs) (λ r y. y) rs
    (ih (child_set_form ms ds ∷ []) (child_set ks gs ∷ []) h ((sizes-marked (has_key Key.Size ms) (has_key Key.MinSize ms) (has_key Key.MaxSize ms) (attribute Key.Size ks) (attribute Key.MinSize ks) (attribute Key.MaxSize ks) m.size, f.1), set-known ks gs k, tt))
step ReprKind.PartitionOccurrence rs (partition_dom ms es d) (partitions ks e) f s k h ih = let x = if-fit (is_atom d) [] rs h in with-none ReprKind.PartitionOccurrence (partitions ks e) (atom-finite d e f.1 x.0, finite-bounded e k) rs (ih [] [] x.1 tt)
step ReprKind.PartitionAsSet rs (partition_dom ms es d) (partitions ks e) f s k h ih =
    let m = f.0 in
    with-only ReprKind.PartitionAsSet (partitions ks e) (child_parts ks e) (λ r y. (finite-bounded e k, y)) rs
    (ih (child_parts_form ms d ∷ []) (child_parts ks e ∷ []) h (
      (
        sizes-marked (has_key Key.NumParts ms) (has_key Key.MinNumParts ms) (has_key Key.MaxNumParts ms || not (has_key Key.NumParts ms)) (attribute Key.NumParts ks) (attribute Key.MinNumParts ks)
            (if has Key.NumParts ks then attribute Key.MaxNumParts ks else or_else (attribute Key.MaxNumParts ks) (Some (bound e))) m.parts,
        (sizes-marked (has_key Key.PartSize ms) (has_key Key.MinPartSize ms) (has_key Key.MaxPartSize ms) (attribute Key.PartSize ks) (attribute Key.MinPartSize ks) (attribute Key.MaxPartSize ks) m.part, f.1),
      ),
      (inr k, (inr k, finite-known e k)),
      tt,
    ))
step k rs d e f s kn h ih = cc

mutual
  -- A representation that fits an expression has room for the members of a domain of its form.
  pub fits-roomy : (r : Repr) (d : Dom) (e : Domain) → Formed d e → Known e → fits r d ≡ true → Roomy r e
  fits-roomy (repr k rs) d e f kn h = step k rs d e f (formed-same d e f) kn h (λ ds es a g. all-roomy rs ds es a g)

  all-roomy : (rs : Reprs) (ds : List Dom) (es : List Domain) → all_fit rs ds ≡ true → EachFormed ds es → AllRoomy rs es
  all-roomy no_reprs [] [] h f = tt
  all-roomy no_reprs [] (e ∷ es) h f = absurd f
  all-roomy no_reprs (d ∷ ds) es h f = cc
  all-roomy (more_reprs r rs) [] es h f = cc
  all-roomy (more_reprs r rs) (d ∷ ds) [] h f = absurd f
  all-roomy (more_reprs r rs) (d ∷ ds) (e ∷ es) h f = (fits-roomy r d e f.0 f.1 (and-left (fits r d) (all_fit rs ds) h), all-roomy rs ds es (and-right (fits r d) (all_fit rs ds) h) f.2)
