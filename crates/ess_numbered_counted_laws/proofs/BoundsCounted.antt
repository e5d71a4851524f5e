-- What says how many items a list has at most is right, where it is there.
use Rattle.std.proofs.Common.{◌≡◌, refl, Bool, false, Option, Some, None}
use Rattle.ess_semantics.specs.Values.{a_matrix}
use Rattle.ess_semantics.specs.Names.{Names}
use Rattle.ess_semantics.specs.NamesAt.{names_behind}
use Rattle.ess_semantics.specs.Trees.{name_pat, Ex, comp_ex, Gens, from}
use Rattle.ess_semantics.specs.Types.{Ty, compound2}
use Rattle.ess_semantics.specs.Typing.{type_of}
use Rattle.ess_semantics.specs.Typed.{Typed}
use Rattle.ess_semantics.specs.Contexts.{AtEach}
use Rattle.ess_semantics.specs.Meaning.{Env}
use Rattle.ess_semantics.specs.Meets.{Meets, MeetsGens}
use Rattle.ess_rules_laws.proofs.Places.{at-each-join}
use Rattle.ess_refine_laws.specs.AllRules.{Supply, OfSome}
use Rattle.ess_values_along_laws.specs.Valued.{Valued, UnderValued}
use Rattle.ess_open_rules_laws.specs.OpenGenerators.{Opened, at_first_open}
use Rattle.ess_open_counted_laws.proofs.PlainBindings.{Here, at-plain}
use Rattle.ess_numbered_laws.specs.MostItems.{most_items}
use Rattle.ess_numbered_laws.specs.CountedSources.{counted_list}
use Rattle.ess_numbered_laws.specs.Bounds.{IsBound}
use Rattle.ess_numbered_laws.specs.CountedLaws.{ItemsBounded, SourceAsks, ListAsks}
use Rattle.ess_numbered_laws.proofs.MostBound.{most-items-bound}
use Rattle.ess_numbered_laws.proofs.OrderKeeps.{counted-most}
use Rattle.ess_numbered_counted_laws.specs.NumbersCounted.{BoundThere, ItemsThere, SourceBeside, ListBeside}

-- A bound that is there is right.
bound : (s : Supply) (t n : Ex) → most_items s.third t ≡ Some n → (env : Env) → BoundThere n t env → Meets t env → IsBound n t env
bound s t n q env b m = most-items-bound s.third t n q env b.fits m b.met b.there

-- So it is of a comprehension over a counted source.
pub list-bound : (s : Supply) (g : Names Ty) (a n : Ex) → counted_list s g a ≡ Some n → (env : Env) → BoundThere n a env → Meets a env →
    IsBound n a env
list-bound s g a n q env b m = bound s a n (counted-most s g a n q) env b m

-- And of a counted term.
items-bounded : (s : Supply) (t : Ex) (env : Env) (o : Option Ex) (p : Option Ty) → most_items s.third t ≡ o → Meets t env →
    ItemsThere o p t env → ItemsBounded o p t env
items-bounded s t env (Some n) (Some (compound2 a_matrix i u)) q m c = (c.0, bound s t n q env c.1 m, c.2)
items-bounded s t env (Some n) _ q m c = tt
items-bounded s t env None p q m c = tt

source-asked : (s : Supply) (g : Names Ty) (e : Ex) (gs : Gens) (env : Env) → MeetsGens gs env (λ here. Meets e here) →
    SourceBeside s g (comp_ex e gs) env → SourceAsks s g (comp_ex e gs) env
source-asked s g e (from (name_pat y) t hs) env m c =
    (c.0, λ i. items-bounded s t env (most_items s.third t) (type_of t g) refl m.0 (c.1 i))
source-asked s g e _ env m c = tt

-- What is asked at the first generator that isn't plain follows from what is known there, at each binding of plain generators.
pub asked-behind : (g : Names Ty) (env : Env) → Typed g env → (w : Bool) (e : Ex) (gs : Gens) → Valued w (comp_ex e gs) env →
    Meets (comp_ex e gs) env → (B A : Gens → Ex → Env → Type 0) → ((before after : Gens) (here : Env) →
    UnderValued after here (λ there. Valued false e there) → MeetsGens after here (λ there. Meets e there) →
    B before (comp_ex e after) here → A before (comp_ex e after) here) →
    OfSome (at_first_open gs) (λ t. AtEach t.before env (B t.before (comp_ex e t.after))) →
    OfSome (at_first_open gs) (λ t. AtEach t.before env (A t.before (comp_ex e t.after)))
asked-behind g env typed w e gs v m B A f c = go (at_first_open gs) refl c
  where
    V : Env → Type 0
    V here = Valued false e here

    M : Env → Type 0
    M here = Meets e here

    go : (o : Option Opened) → at_first_open gs ≡ o → OfSome o (λ t. AtEach t.before env (B t.before (comp_ex e t.after))) →
        OfSome o (λ t. AtEach t.before env (A t.before (comp_ex e t.after)))
    go None q c = tt
    go (Some t) q c = at-each-join t.before env (Here t.after (names_behind t.before g) V M) (B t.before (comp_ex e t.after))
        (A t.before (comp_ex e t.after)) (λ here h k. f t.before t.after here h.under h.met k) (at-plain gs t q g env typed V M v.1 m) c

-- So of comprehensions over counted terms.
pub list-asked : (s : Supply) (g : Names Ty) (env : Env) → Typed g env → (w : Bool) (a : Ex) → Valued w a env → Meets a env →
    ListBeside s g a env → ListAsks s g a env
list-asked s g env typed w (comp_ex e gs) v m c = asked-behind g env typed w e gs v m (λ ks. SourceBeside s (names_behind ks g))
    (λ ks. SourceAsks s (names_behind ks g)) (λ before after here u k b. source-asked s (names_behind before g) e after here k b) c
list-asked s g env typed w _ v m c = tt
