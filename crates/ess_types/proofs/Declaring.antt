-- What the code's tables and sets have behind a statement whose names are new.
use Rattle.std.proofs.Common.{◌≡◌, refl, sym, ap, ◌∙◌, Bool, true, false, true≢false, ◌||◌, ◌&&◌, not, if◌then◌else◌, List, [], ◌∷◌, ◌++◌, is_some}
use Rattle.std.specs.List.{list_any}
use Rattle.ess_semantics.specs.Values.{Text}
use Rattle.ess_semantics.specs.Names.{Names, keys, look, is_among, all_distinct}
use Rattle.ess_semantics.specs.Trees as pure
use Rattle.ess_semantics.specs.Trees.{given, given_enum, let_ex, let_dom, let_enum, let_unnamed, needs, find, such_that, minimise, maximise}
use Rattle.ess_semantics.specs.Types as pure_types
use Rattle.ess_semantics.specs.Lettings.{types_after, lettings_after}
use Rattle.ess_semantics.specs.Scopes.{names_in_scope}
use Rattle.ess_semantics.specs.Judgements.{declares, scope_after, enums_by, unnamed_by, depending_by, is_objective}
use Rattle.ess_types_names.specs.Tables.{Types, pure_table, pure_declared}
use Rattle.ess_types_names.specs.declared.table.Declared.{Declared}
use Rattle.ess_types_names.specs.declared.table.Declared.TheVariants as declared
use Rattle.ess_types_names.proofs.Tables.{no_bound}
use Rattle.ess_types_scopes.specs.Sets.{name_added, with_name}
use Rattle.ess_types_scopes.specs.Kept.{Kept, pure_lettings}
use Rattle.ess_types_scopes.specs.declared.added.Added.{Added}
use Rattle.ess_types_scopes.specs.declared.added.Added.TheVariants.{New, Standing}
use Rattle.ess_types_scopes.proofs.Sets.{keys_look}
use Rattle.ess_types_entering.specs.Behind.{typed_names, are_new}
use Rattle.ess_types_lettings.specs.Behind.{letting_added}
use Rattle.ess_types_judging.specs.declared.scope.Scope.{Scope}
use Rattle.ess_types_judging.specs.ScopeViews.{pure_scope}
use Rattle.ess_types_judging.specs.Bounds.{finds_under}
use Rattle.ess_types_judging_laws.specs.Verdicts.{findings}
use Rattle.ess_types.specs.Entering.{AreNew, AreTyped, depending}
use Rattle.ess_types.specs.Progress.{IsOutside}
use Rattle.ess_types.proofs.ScopeLemmas.{depending-found, new_typed, new_exs, new_doms, new_enums, new_unnamed, new_finds}

-- ---- one new name

or-first : (b c : Bool) → b || c ≡ false → b ≡ false
or-first false c h = refl
or-first true c h = cc

or-second : (b c : Bool) → b || c ≡ false → c ≡ false
or-second false c h = h
or-second true c h = cc

and-left : (b c : Bool) → b && c ≡ true → b ≡ true
and-left true c h = refl
and-left false c h = cc

and-right : (b c : Bool) → b && c ≡ true → c ≡ true
and-right true c h = h
and-right false c h = cc

not-true : (b : Bool) → not b ≡ true → b ≡ false
not-true true h = cc
not-true false h = refl

-- The first of new names isn't among the others.
first-apart : (ks : List Text) (a : Text) (ns : List Text) → AreNew ks (a ∷ ns) → is_among ks a ≡ false
first-apart ks a ns h = or-first (is_among ks a) (list_any (is_among ks) ns) h.apart

-- It is added to a set.
pub name_added_new : (ns ms : List Text) (a : Text) (others : List Text) (r : Added) → AreNew ns (a ∷ others) → r ≡ name_added ns a
    → ms ≡ with_name r ns a
    → ms ≡ a ∷ ns
name_added_new ns ms a others r h p q =
    q ∙ ap (λ r. with_name r ns a) (p ∙ ap (λ b. if b then Standing else New) (first-apart ns a others h))

-- ---- types and lettings

are-new : (ns : List Text) (g : Names pure_types.Ty) → all_distinct ns ≡ true → list_any (is_among (keys g)) ns ≡ false
    → are_new ns g ≡ true
are-new [] g o h = refl
are-new (a ∷ ns) g o h =
    both (is_among ns a) (is_some (look g a)) (are_new ns g) (not-true (is_among ns a) (and-left (not (is_among ns a)) (all_distinct ns) o))
    (sym (keys_look g a) ∙ or-first (is_among (keys g) a) (list_any (is_among (keys g)) ns) h)
    (are-new ns g (and-right (not (is_among ns a)) (all_distinct ns) o)
    (or-second (is_among (keys g) a) (list_any (is_among (keys g)) ns) h))
  where
    both : (b c d : Bool) → b ≡ false → c ≡ false → d ≡ true → not b && (not c && d) ≡ true
    both b c d p q r = cc

-- New names that get a type.
typed-new : (t : pure.Stm) (g : Names pure_types.Ty) → AreNew (keys g) (declares t) → are_new (typed_names t) g ≡ true
typed-new (given x d) g h = are-new (x ∷ []) g h.once h.apart
typed-new (given_enum t) g h = refl
typed-new (let_ex x e) g h = are-new (x ∷ []) g h.once h.apart
typed-new (let_dom x d) g h = refl
typed-new (let_enum t ns) g h =
    are-new ns g (and-right (not (is_among ns t)) (all_distinct ns) h.once)
    (or-second (is_among (keys g) t) (list_any (is_among (keys g)) ns) h.apart)
typed-new (let_unnamed t e) g h = refl
typed-new (needs e) g h = refl
typed-new (find x d) g h = are-new (x ∷ []) g h.once h.apart
typed-new (such_that e) g h = refl
typed-new (minimise e) g h = refl
typed-new (maximise e) g h = refl

-- The types of new names are added.
pub types_added : (t : pure.Stm) (s u : Types) (r : Declared) → s.bound ≡ [] → AreNew (keys (pure_table s)) (declares t)
    → (r ≡ declared.Added → pure_table u ≡ types_after t (pure_table s))
    → (r ≡ declared.Standing → are_new (typed_names t) (pure_declared s.declared) ≡ false) → pure_table u ≡ types_after t (pure_table s)
types_added t s u declared.Added o h f g = f refl
types_added t s u declared.Standing o h f g =
    absurd (true≢false (sym (ap (are_new (typed_names t)) (sym (no_bound s o)) ∙ typed-new t (pure_table s) h) ∙ g refl))

-- The letting of a new name is kept.
pub letting_kept : (t : pure.Stm) (l m : Kept) (r : Added) → AreNew (keys (pure_lettings l).exs) (declares t)
    → AreNew (keys (pure_lettings l).doms) (declares t)
    → r ≡ letting_added t (pure_lettings l) → (r ≡ New → pure_lettings m ≡ lettings_after t (pure_lettings l))
    → pure_lettings m ≡ lettings_after t (pure_lettings l)
letting_kept t l m r e d p f = f (p ∙ go t e d)
  where
    go : (t : pure.Stm) → AreNew (keys (pure_lettings l).exs) (declares t) → AreNew (keys (pure_lettings l).doms) (declares t)
        → letting_added t (pure_lettings l) ≡ New
    go (given x b) e d = refl
    go (given_enum t) e d = refl
    go (let_ex x b) e d =
        ap (λ b. if b then Standing else New) (sym (keys_look (pure_lettings l).exs x) ∙ first-apart (keys (pure_lettings l).exs) x [] e)
    go (let_dom x b) e d =
        ap (λ b. if b then Standing else New) (sym (keys_look (pure_lettings l).doms x) ∙ first-apart (keys (pure_lettings l).doms) x [] d)
    go (let_enum t ns) e d = refl
    go (let_unnamed t b) e d = refl
    go (needs b) e d = refl
    go (find x b) e d = refl
    go (such_that b) e d = refl
    go (minimise b) e d = refl
    go (maximise b) e d = refl

-- ---- the whole scope

module _ (s : Scope) (t : pure.Stm) (o : IsOutside s) where
  pub new_names : AreNew (names_in_scope (pure_scope s)) (declares t) → AreNew (keys (pure_table s.table)) (declares t)
  new_names h = new_typed (pure_scope s) (declares t) h

  pub new_letting_exs : AreTyped (pure_scope s) → AreNew (names_in_scope (pure_scope s)) (declares t)
      → AreNew (keys (pure_lettings s.lettings).exs) (declares t)
  new_letting_exs y h = new_exs (pure_scope s) (declares t) h y

  pub new_letting_doms : AreNew (names_in_scope (pure_scope s)) (declares t) → AreNew (keys (pure_lettings s.lettings).doms) (declares t)
  new_letting_doms h = new_doms (pure_scope s) (declares t) h

  pub new_enum_types : AreNew (names_in_scope (pure_scope s)) (declares t) → AreNew s.enums (declares t)
  new_enum_types h = new_enums (pure_scope s) (declares t) h

  pub new_unnamed_types : AreNew (names_in_scope (pure_scope s)) (declares t) → AreNew s.unnamed (declares t)
  new_unnamed_types h = new_unnamed (pure_scope s) (declares t) h

  pub new_depending : AreTyped (pure_scope s) → AreNew (names_in_scope (pure_scope s)) (declares t) → AreNew s.finds (declares t)
  new_depending y h =
      let n = new_finds (pure_scope s) (declares t) h y in
      record { once = n.once; apart = ap (λ b. list_any (is_among (finds_under b s.finds)) (declares t)) (sym o.bound) ∙ n.apart }

  -- The scope behind the statement, part by part.
  pub entered : (u : Scope) (b : Bool) → pure_table u.table ≡ types_after t (pure_table s.table)
      → pure_lettings u.lettings ≡ lettings_after t (pure_lettings s.lettings)
      → u.enums ≡ enums_by t ++ s.enums → u.unnamed ≡ unnamed_by t ++ s.unnamed → u.finds ≡ depending t b ++ s.finds → u.bound ≡ s.bound
      → u.objective ≡ (is_objective t || s.objective) → b ≡ (findings t (pure_scope s)).found.fixed
      → pure_scope u ≡ scope_after t (pure_scope s)
  entered u b pt pl pe pu pf pb po px =
      let pd : finds_under u.bound u.finds ≡ depending_by t (pure_scope s) ++ finds_under s.bound s.finds =
      ap (λ l. finds_under l u.finds) (pb ∙ o.bound) ∙ pf ∙ ap (λ x. depending t x ++ s.finds) px
      ∙ ap (λ l. l ++ s.finds) (depending-found t (pure_scope s))
      ∙ ap (λ l. depending_by t (pure_scope s) ++ finds_under l s.finds) (sym o.bound)
      in
      λ i. record { tys = pt i; lets = pl i; enums = pe i; unnamed = pu i; depends_on_finds = pd i; objective = po i }

-- A statement whose names are new comes into scope.
pub ruleset scope_entered = (entered, new_enum_types, new_unnamed_types, new_depending)
