-- What a view of a set in slots with a dummy offers as a listing: a number runs over the slots that don't hold the dummy, and the
-- item is the view of the atom in the slot.
use Rattle.std.specs.Prelude.{◌≡◌, true, false, [], ◌∷◌, Option, Some, None, ℤ}
use Rattle.ess_semantics.specs.declared.words.Op2.{Op2}
use Rattle.ess_semantics.specs.declared.words.ReprKind.{ReprKind}
use Rattle.ess_semantics.specs.Values.{Text, number}
use Rattle.ess_semantics.specs.Trees.{repr, no_reprs, name_pat, Ex, name_ex, cell_ex, seen_ex, ex2, no_gens, over, cond, set_dom}
use Rattle.ess_semantics.specs.Domains.{Domain}
use Rattle.ess_semantics.specs.SetLayers.{dummy_of}
use Rattle.ess_semantics.specs.Meaning.{Env, meaning, domain_of}
use Rattle.ess_semantics.specs.Meets.{Meets}
use Rattle.ess_rules_laws.specs.Listings.{Alternative}
use Rattle.ess_rules_laws.specs.SetListings.{put_last}
use Rattle.ess_rules_laws.specs.SlotListings.{slots_dom}

-- x over the n slots, where the cell of slot x isn't the dummy m, and the view of the atom in slot x.
abbrev pub dummy_listing : Text → Ex → Ex → Ex → Option Alternative
dummy_listing x n m (seen_ex (repr ReprKind.ExplicitVarSizeWithDummy no_reprs) (set_dom ms es d) (t ∷ []) js) =
    Some (record {
      gens = over (name_pat x) (slots_dom n) (cond (ex2 true Op2.Ne (cell_ex false t (put_last js (name_ex x))) m) no_gens);
      item = seen_ex (repr ReprKind.Atom no_reprs) d (t ∷ []) (put_last js (name_ex x));
    })
dummy_listing x n m e = None

-- The expression has the dummy of the inner domain of a set as its value.
abbrev pub Marks : Ex → Ex → Env → Type 0
Marks m (seen_ex r (set_dom ms es d) ns js) env =
    (e : Domain) (k : ℤ) → domain_of d env ≡ Some e → dummy_of e ≡ Some k → meaning m env ≡ Some (number k)
Marks m e env = Unit {0}

-- The expression says what the dummy of the view is, and the tables meet its structures.
pub record DummyIs (m e : Ex) (env : Env) : Type 0 where
  pub marks : Marks m e env
  pub met : Meets m env
