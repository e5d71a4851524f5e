-- The items of the list of `--use-repr`: each a name, `:`, and representations with `+` between. The children of a kind may be left
-- out together; they then take their defaults.
use Rattle.std.specs.Prelude.{◌≡◌, ℕ, Bool, true, false, List, [], ◌∷◌, ◌++◌, map, Option, Some, None, Ok, Err, MatchOption, IsTrue, if◌then◌else◌}
use Rattle.std.specs.declared.result.Result.{Result}
use Rattle.ess_semantics.specs.Lists.{append_all, item_number}
use Rattle.ess_semantics.specs.Values.{Text}
use Rattle.ess_semantics.specs.Names.{Names, look, is_among}
use Rattle.ess_semantics.specs.Order.{same_text}
use Rattle.ess_semantics.specs.Trees.{Repr, Dom, Stm}
use Rattle.ess_semantics.specs.Kinds.{fits}
use Rattle.ess_semantics.specs.Plans.{Options, domain_of_stm}
use Rattle.ess_semantics.specs.ChosenOptions.{Differ}
use Rattle.ess_grammar.specs.Texts.{ReadsRepresentation, IsWithinLimits}
use Rattle.std.specs.Borrow.{Bor}
use Rattle.ess_core.specs.declared.representations.Repr as code
use Rattle.ess_core.specs.declared.domains.Dom as code_dom
use Rattle.ess_core.specs.TreeViews.{pure_repr, pure_dom}
use Rattle.ess_parse.specs.declared.refusal.ReadNo.{ReadNo}
use Rattle.ess_parse.specs.declared.representations.named.NamedReprs.{NamedReprs}
use Rattle.ess_parse.specs.NamedReprViews.{pure_named_reprs}
use Rattle.conjure_laws.specs.SideBySide.{Along}
use Rattle.conjure_options.specs.Pieces.{cut, pieces}
use Rattle.conjure_options.specs.Filled.{filled}

-- The givens and finds with a domain of these statements, in order.
abbrev pub domains_of : List Stm → Names Dom
domains_of ss = append_all (map domain_of_stm ss)

-- The first of these with the name.
abbrev pub found : Names Dom → Text → Option (Text × Dom)
found [] a = None
found (b ∷ bs) a = if same_text b.0 a then Some b else found bs a

-- What a name and a domain of the code stand for.
abbrev pub entry : Bor Text × Bor code_dom.Dom → Text × Dom
entry b = (b.0.now, pure_dom b.1.now)

-- The text is that of a representation.
abbrev pub SpellsRepr : Text → Repr → Type 0
SpellsRepr text r = ReadsRepresentation text r × IsWithinLimits text

-- The text is that of a representation, which is t with the children that are left out, and t fits the domain.
pub record IsTree (d : Dom) (text : Text) (t : Repr) : Type 0 where
  pub written : Repr
  pub spells : SpellsRepr text written
  pub whole : t ≡ filled written d
  pub fitting : IsTrue (fits t d)

-- The item gives the name b.0 with the representations b.1, behind items that give the names `done`.
pub record IsItem (ds : Names Dom) (done : List Text) (item : Text) (b : Text × List Repr) : Type 0 where
  pub behind : Text
  pub dom : Dom
  pub cuts : cut 58 item ≡ (b.0, Some behind)
  pub named : look ds b.0 ≡ Some dom
  pub new : is_among done b.0 ≡ false
  pub trees : Along (pieces 43 behind) b.1 (IsTree dom)
  pub differ : Differ b.1

-- Each item gives the name with representations beside it, behind items that give the names `done`.
abbrev pub AreItems : Names Dom → List Text → List Text → Options → Type 0
AreItems ds done [] [] = Unit {0}
AreItems ds done (i ∷ is) (b ∷ bs) = IsItem ds done i b × AreItems ds (done ++ b.0 ∷ []) is bs
AreItems ds done _ _ = ⊥

-- ---- what is answered

-- This one is the only one of its kind.
abbrev pub IsOnly : {A : Type 0} → (A → Type 0) → A → Type 0
IsOnly {A = A} P x = P x × ((y : A) → P y → y ≡ x)

-- What the reader of representations answers.
abbrev pub IsReprRead : Text → Result code.Repr ReadNo → Type 0
IsReprRead text (Ok t) = IsOnly (SpellsRepr text) (pure_repr t)
IsReprRead text (Err ReadNo.NoMemory) = Unit {0}
IsReprRead text (Err _) = (r : Repr) → SpellsRepr text r → ⊥

-- The only representation that the text is, or none where it is none.
abbrev pub IsTreeOrNone : Dom → Text → Option code.Repr → Type 0
IsTreeOrNone d text o = MatchOption o ((t : Repr) → IsTree d text t → ⊥) (λ t. IsOnly (IsTree d text) (pure_repr t))

-- The only representations that the pieces are, or none where one is none.
abbrev pub AreTreesOrNone : Dom → List Text → Option (List code.Repr) → Type 0
AreTreesOrNone d ps o =
    MatchOption o ((ts : List Repr) → Along ps ts (IsTree d) → ⊥) (λ ts. IsOnly (λ us. Along ps us (IsTree d)) (map pure_repr ts))

-- The representation is among these.
abbrev pub IsAmong : List Repr → Repr → Type 0
IsAmong rs r = (k : ℕ) × (item_number rs k ≡ Some r)

-- Whether it is.
pub record IsAmongOrNot (rs : List Repr) (r : Repr) (b : Bool) : Type 0 where
  pub yes : b ≡ true → IsAmong rs r
  pub no : b ≡ false → IsAmong rs r → ⊥

-- Whether no representation stands twice.
pub record AreDifferent (rs : List Repr) (b : Bool) : Type 0 where
  pub yes : b ≡ true → Differ rs
  pub no : b ≡ false → Differ rs → ⊥

-- The name with the representations that the pieces are, which differ.
pub record IsNamed (x : Text) (d : Dom) (ps : List Text) (b : Text × List Repr) : Type 0 where
  pub name : b.0 ≡ x
  pub trees : Along ps b.1 (IsTree d)
  pub differ : Differ b.1

-- What they give, or none where they give nothing.
abbrev pub IsNamedOrNone : Text → Dom → List Text → Option NamedReprs → Type 0
IsNamedOrNone x d ps o =
    MatchOption o ((b : Text × List Repr) → IsNamed x d ps b → ⊥) (λ n. IsOnly (IsNamed x d ps) (pure_named_reprs n))

-- What the item gives, or none where it is none.
abbrev pub IsItemOrNone : Names Dom → List Text → Text → Option NamedReprs → Type 0
IsItemOrNone ds done item o =
    MatchOption o ((b : Text × List Repr) → IsItem ds done item b → ⊥) (λ n. IsOnly (IsItem ds done item) (pure_named_reprs n))
