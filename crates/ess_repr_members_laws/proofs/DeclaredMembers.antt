-- The declared tables have the right members, at any nesting.
use Rattle.std.proofs.Common.{◌≡◌, refl, sym, ◌∙◌, subst, Bool, true, false, ◌||◌, List, [], ◌∷◌, ◌++◌, map, Option, Some, None, option_map}
use Rattle.ess_semantics.specs.declared.words.ReprKind.{ReprKind}
use Rattle.ess_semantics.specs.Values.{Text}
use Rattle.ess_semantics.specs.Lists.{each_of, zip}
use Rattle.ess_semantics.specs.Domains.{Domain}
use Rattle.ess_semantics.specs.Membership.{no_negative_attribute}
use Rattle.ess_semantics.specs.Kinds.{child_forms, fits, all_fit}
use Rattle.ess_semantics.specs.Trees.{Repr, Reprs, repr, no_reprs, more_reprs, Dom, Doms, bool_dom, int_dom, name_dom, tuple_dom, record_dom, matrix_dom, set_dom, mset_dom, function_dom, relation_dom, partition_dom, no_doms, more_doms}
use Rattle.ess_semantics.specs.Cells.{Axes}
use Rattle.ess_semantics.specs.Layers.{Layer}
use Rattle.ess_semantics.specs.TableNames.{Named, child_names}
use Rattle.ess_semantics.specs.Declarations.{Declaration, declared_own, under, leaves_out, declarations_below, declarations_of_children, declarations}
use Rattle.ess_semantics.specs.DeclaredTables.{TableDecl, Declares}
use Rattle.ess_semantics.specs.Children.{without_sizes}
use Rattle.ess_semantics.specs.Meaning.{Env, domain_of}
use Rattle.ess_semantics.proofs.Tests.{and-left, and-right}
use Rattle.ess_repr_laws.specs.WellFormed.{Well, AllWell}
use Rattle.ess_repr_declare_laws.specs.ChildDomains.{child_doms}
use Rattle.ess_repr_declare_laws.specs.DeclaredTrees.{layer_axes, own_trees, frees_children, below_layer, trees_below, trees_of_children, declared_trees}
use Rattle.ess_repr_declare_laws.specs.Laws.{has_numbers, Sound, AllSound}
use Rattle.ess_repr_declare_laws.proofs.SizeNumbers.{mapped, chained}
use Rattle.ess_repr_declare_laws.proofs.ChildLaw.{children-are}
use Rattle.ess_repr_declare_laws.proofs.AlikeChildren.{AllAlike, all-alike}
use Rattle.ess_repr_declare_laws.proofs.SoundChildren.{EachSound, children-sound}
use Rattle.ess_repr_declare_laws.proofs.DeclaredNames.{names-are}
use Rattle.ess_repr_members_laws.specs.Fields.{Fielded}
use Rattle.ess_repr_members_laws.proofs.TableLists.{Ranged, Denoted, denoted-as, named-denoted, append-denoted, below-denoted}
use Rattle.ess_repr_members_laws.proofs.LayerParts.{EachPlain, EachFielded, Paired, LaidOut}
use Rattle.ess_repr_members_laws.proofs.LayerCases.{laid-out}

-- ---- what is known of children

-- A sound domain is well formed, and has its numbers.
mutual
  sound-well : (d : Dom) → Sound d → Well d
  sound-well bool_dom s = tt
  sound-well (int_dom rs es) s = tt
  sound-well (name_dom a) s = tt
  sound-well (tuple_dom ts) s = all-well ts s
  sound-well (record_dom fs ts) s = all-well ts s
  sound-well (matrix_dom is d) s = (s.0, s.1, sound-well d s.2)
  sound-well (set_dom ms es d) s = (s.0, sound-well d s.2)
  sound-well (mset_dom ms es d) s = (s.0, sound-well d s.2)
  sound-well (function_dom ms es d c) s = (s.0, s.2, sound-well d s.3, sound-well c s.4)
  sound-well (relation_dom ms es ts) s = (s.0, all-well ts s.2)
  sound-well (partition_dom ms es d) s = (s.0, sound-well d s.2)

  all-well : (ts : Doms) → AllSound ts → AllWell ts
  all-well no_doms s = tt
  all-well (more_doms d ts) s = (sound-well d s.0, all-well ts s.1)

sound-numbers : (d : Dom) → Sound d → has_numbers d ≡ true
sound-numbers bool_dom s = refl
sound-numbers (int_dom rs es) s = refl
sound-numbers (name_dom a) s = refl
sound-numbers (tuple_dom ts) s = refl
sound-numbers (record_dom fs ts) s = refl
sound-numbers (matrix_dom is d) s = refl
sound-numbers (set_dom ms es d) s = s.1
sound-numbers (mset_dom ms es d) s = s.1
sound-numbers (function_dom ms es d c) s = s.1
sound-numbers (relation_dom ms es ts) s = s.1
sound-numbers (partition_dom ms es d) s = s.1

-- The forms of the children of a representation that fits.
record Forms (k : ReprKind) (rs : Reprs) (d : Dom) : Type 0 where
  pub forms : List Dom
  pub there : child_forms k d ≡ Some forms
  pub fit : all_fit rs forms ≡ true
  pub alike : AllAlike (child_doms k d) forms

fit-forms : (k : ReprKind) (rs : Reprs) (d : Dom) → Sound d → fits (repr k rs) d ≡ true → Forms k rs d
fit-forms k rs d s f = go (child_forms k d) refl f
  where
    go : (o : Option (List Dom)) → child_forms k d ≡ o → elim o [ None ↦ false | Some ds ↦ all_fit rs ds ] ≡ true → Forms k rs d
    go None e h = cc
    go (Some ds) e h =
        let a = children-are k d ds (sound-well d s) (sound-numbers d s) e in
        let z : Some (map (without_sizes k) (child_doms k d)) ≡ Some ds = sym a.forms ∙ e in
        let q : map (without_sizes k) (child_doms k d) ≡ ds = cc in
        record { forms = ds; there = e; fit = h; alike = subst (AllAlike (child_doms k d)) q (all-alike k (child_doms k d)) }

-- ---- one layer

-- The tables of a layer, with those of its children.
layer-denoted : (env : Env) (out : Bool) (k : ReprKind) (rs : Reprs) (d : Dom) (e : Domain) (l : LaidOut env k d e) →
    Denoted env (trees_of_children (out || frees_children k) rs (zip (child_names k d) (child_doms k d)) (layer_axes k d))
    (declarations_of_children (out || frees_children k) rs l.over.children l.over.axes) →
    Denoted env (trees_below out (repr k rs) d) (declarations_below out (repr k rs) e)
layer-denoted env out k rs d e l h =
    subst (λ o. Denoted env (trees_below out (repr k rs) d) (all o)) (sym l.there)
    (append-denoted env (own_trees out k d) kids (map (declared_own out) l.over.own) (below (leaves_out l.over.in_use)) (l.own out)
    (subst (λ b. Denoted env kids (below b)) (sym l.frees) h))
  where
    kids : List TableDecl
    kids = trees_of_children (out || frees_children k) rs (zip (child_names k d) (child_doms k d)) (layer_axes k d)

    below : Bool → List Declaration
    below b = declarations_of_children (out || b) rs l.over.children l.over.axes

    all : Option Layer → List Declaration
    all o = elim o [
      | None ↦ []
      | Some m ↦ map (declared_own out) m.own ++ declarations_of_children (out || leaves_out m.in_use) rs m.children m.axes
    ]

-- A child's tables in front of those of the others.
more-denoted : (env : Env) (out : Bool) (r : Repr) (rs : Reprs) (c : Named) (cs : List Named) (d : Dom) (ds : List Dom) (x : Domain)
    (xs : List Domain) (as' : List Dom) (bs : Axes) → Ranged env as' bs → Denoted env (trees_below out r d) (declarations_below out r x) →
    Denoted env (trees_of_children out rs (zip cs ds) as') (declarations_of_children out rs xs bs) →
    Denoted env (trees_of_children out (more_reprs r rs) (zip (c ∷ cs) (d ∷ ds)) as')
    (declarations_of_children out (more_reprs r rs) (x ∷ xs) bs)
more-denoted env out r rs c cs d ds x xs as' bs g h t =
    append-denoted env (map (below_layer c.0 as') (trees_below out r d)) (trees_of_children out rs (zip cs ds) as')
    (under bs (declarations_below out r x))
    (declarations_of_children out rs xs bs) (below-denoted env c.0 as' bs g (trees_below out r d) (declarations_below out r x) h) t

-- ---- all layers

-- The first of several domains, and the others.
record First (env : Env) (d : Dom) (ds : List Dom) (xs : List Domain) : Type 0 where
  pub one : Domain
  pub others : List Domain
  pub first : domain_of d env ≡ Some one
  pub behind : each_of ds (λ c. domain_of c env) ≡ Some others
  pub whole : one ∷ others ≡ xs

first-of : (env : Env) (d : Dom) (ds : List Dom) (xs : List Domain) → each_of (d ∷ ds) (λ c. domain_of c env) ≡ Some xs → First env d ds xs
first-of env d ds xs h =
    let u = chained (domain_of d env) (λ y. option_map (λ ys. y ∷ ys) (each_of ds (λ c. domain_of c env))) xs h in
    let m = mapped (λ ys. u.0 ∷ ys) (each_of ds (λ c. domain_of c env)) xs u.2 in
    record { one = u.0; others = m.0; first = u.1; behind = m.1; whole = m.2 }

mutual
  members-below : (env : Env) (out : Bool) (r : Repr) (d : Dom) (e : Domain) → Sound d → Fielded d → fits r d ≡ true →
      domain_of d env ≡ Some e →
      no_negative_attribute e ≡ true → Denoted env (trees_below out r d) (declarations_below out r e)
  members-below env out (repr k rs) d e s g f h n =
      let p : Forms k rs d = fit-forms k rs d s f in
      let l : LaidOut env k d e = laid-out env k d p.forms e s g p.there h n in
      layer-denoted env out k rs d e l
      (members-children env (out || frees_children k) rs (child_names k d) (child_doms k d) p.forms l.over.children
      (layer_axes k d) l.over.axes l.axes l.named p.alike
      (children-sound k d p.forms s p.there) l.fielded p.fit l.children l.plain)

  members-children : (env : Env) (out : Bool) (rs : Reprs) (cs : List Named) (ds fs : List Dom) (xs : List Domain) (as' : List Dom)
      (bs : Axes) → Ranged env as' bs →
      Paired cs ds → AllAlike ds fs → EachSound ds → EachFielded ds → all_fit rs fs ≡ true → each_of ds (λ c. domain_of c env) ≡ Some xs →
      EachPlain xs →
      Denoted env (trees_of_children out rs (zip cs ds) as') (declarations_of_children out rs xs bs)
  members-children env out no_reprs cs ds fs xs as' bs g p a s i f h n = tt
  members-children env out (more_reprs r rs) [] [] [] xs as' bs g p a s i f h n = cc
  members-children env out (more_reprs r rs) [] [] (y ∷ fs) xs as' bs g p a s i f h n = absurd a
  members-children env out (more_reprs r rs) [] (d ∷ ds) fs xs as' bs g p a s i f h n = absurd p
  members-children env out (more_reprs r rs) (c ∷ cs) [] fs xs as' bs g p a s i f h n = absurd p
  members-children env out (more_reprs r rs) (c ∷ cs) (d ∷ ds) [] xs as' bs g p a s i f h n = absurd a
  members-children env out (more_reprs r rs) (c ∷ cs) (d ∷ ds) (y ∷ fs) xs as' bs g p a s i f h n =
      let u : First env d ds xs = first-of env d ds xs h in
      let m : EachPlain (u.one ∷ u.others) = subst EachPlain (sym u.whole) n in
      subst (λ z. Denoted env (trees_of_children out (more_reprs r rs) (zip (c ∷ cs) (d ∷ ds)) as')
      (declarations_of_children out (more_reprs r rs) z bs)) u.whole
      (more-denoted env out r rs c cs d ds u.one u.others as' bs g
      (members-below env out r d u.one s.0 i.0 (a.0.1 r ∙ and-left (fits r y) (all_fit rs fs) f) u.first m.0)
      (members-children env out rs cs ds fs u.others as' bs g p a.1 s.1 i.1 (and-right (fits r y) (all_fit rs fs) f) u.behind m.1))

-- The declared trees declare the tables of the representation.
pub trees-declare : (r : Repr) (d : Dom) (x : Text) (taken : List Text) → Sound d → Fielded d → fits r d ≡ true →
    Declares r d x taken (declared_trees r d x taken)
trees-declare r d x taken s g f = record {
  names = names-are r d x taken s f;
  members = λ env e h n. denoted-as env (declared_trees r d x taken) (declarations r e)
      (named-denoted env x (trees_below false r d) taken (declarations r e) (members-below env false r d e s g f h n));
}
