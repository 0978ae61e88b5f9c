-- In a well_named text the definitions' words differ, since a later one of the same word would be misnamed; so the node that is looked up for a
-- definition's word is its own, and each use has a definition.
use Prim.Native.Nat.{ℕ, ◌<◌}
use mathlib.Core.Path.{◌≡◌, refl, sym, ap, subst, ◌∙◌}
use mathlib.Core.Logic.{◌⊎◌, inl, inr, ⊎_elim}
use mathlib.Core.Bool.{Bool, cond}
use mathlib.Core.List.Memᴰ
use mathlib.Core.List.{List, [], ◌∷◌, map, Memᴰ}
use Rattle.theory.specs.paper.Lists.{Rising}
use Rattle.theory.proofs.Members.{rising_tail, rising_above}
use Rattle.theory.proofs.Tests.{Decides, decided}
use Rattle.grammar.specs.paper.Text.{word_at, same_word}
use Rattle.grammar.specs.paper.Grammar.{System, WellFormed}
use Rattle.grammar.specs.paper.Names.{definitions, uses, Misnamed, WellNamed}
use Rattle.grammar.specs.paper.Gates.{Definition, nodes_of, node_among, node_at}
use Rattle.grammar.proofs.Bytes.{same_word_is, is_same_word, same_word_refl, same_word_not}
use Rattle.grammar.proofs.Places.{definitions_rise}
use Rattle.grammar.proofs.Sizes.{place_in, node_places}

pub decides_same_word : (v w : List ℕ) → Decides (same_word v w) (v ≡ w)
decides_same_word v w = record { holds = same_word_is v w; passes = is_same_word v w }

-- Definitions with words that differ

pub data Apart (s : List ℕ) : List Definition → Type 0 where
  none : Apart s []
  more : {d : Definition} {ds : List Definition} → ((f : Definition) → Memᴰ f ds → word_at s d.place ≡ word_at s f.place → ⊥) →
      Apart s ds → Apart s (d ∷ ds)

pub node_of_apart : {s : List ℕ} {ds : List Definition} → Apart s ds → (d : Definition) → Memᴰ d ds → node_among s ds (word_at s d.place) ≡ d.node
unfolding node_among
node_of_apart Apart.none d m = absurd (Memᴰ.not-nil m)
node_of_apart {s} (Apart.more {d = c} {ds = ds} differ rest) d m = ⊎_elim
    (λ (e : d ≡ c). subst (λ (x : Definition). cond (same_word (word_at s c.place) (word_at s x.place)) c.node (node_among s ds (word_at s x.place)) ≡ x.node) (sym e)
    (ap (λ (b : Bool). cond b c.node (node_among s ds (word_at s c.place))) (same_word_refl (word_at s c.place))))
    (λ later. ap (λ (b : Bool). cond b c.node (node_among s ds (word_at s d.place))) (same_word_not _ _ (differ d later))
    ∙ node_of_apart rest d later)
    (Memᴰ.cases_cons m)

apart_of_rising : (s : List ℕ) (ds : List Definition) → Rising (map place_in ds) →
    ((p d : ℕ) → Memᴰ p (map place_in ds) → Memᴰ d (map place_in ds) → d < p → word_at s d ≡ word_at s p → ⊥) → Apart s ds
apart_of_rising s [] rising differ = Apart.none
apart_of_rising s (d ∷ ds) rising differ = Apart.more
    (λ f m same. differ f.place d.place (Memᴰ.tail (Memᴰ.map place_in m)) (Memᴰ.head refl) (rising_above rising f.place (Memᴰ.map place_in m)) same)
    (apart_of_rising s ds (rising_tail rising) (λ p e m n. differ p e (Memᴰ.tail m) (Memᴰ.tail n)))

module _ {s : List ℕ} {sys : System} (whole : WellFormed s sys) (named : WellNamed s sys) where
  pub definitions_apart : Apart s (nodes_of sys)
  definitions_apart =
      apart_of_rising s (nodes_of sys) (rw (node_places sys) (definitions_rise whole))
      (λ p d m n less same. named p (Misnamed.again d (subst (Memᴰ p) (node_places sys) m) (subst (Memᴰ d) (node_places sys) n) less same))

  -- a definition's name stands for its node
  pub node_of_definition : (d : Definition) → Memᴰ d (nodes_of sys) → node_at s sys d.place ≡ d.node
  node_of_definition d m = node_of_apart definitions_apart d m

-- Uses

abbrev pub DefinedAmong : List ℕ → List Definition → List ℕ → Type 0
DefinedAmong s ds w = (d : Definition) × Memᴰ d ds × (word_at s d.place ≡ w)

defined_or_not : (s : List ℕ) (ds : List Definition) (w : List ℕ) → DefinedAmong s ds w ⊎ ((d : Definition) → Memᴰ d ds → word_at s d.place ≡ w → ⊥)
defined_or_not s [] w = inr (λ d m e. Memᴰ.not-nil m)
defined_or_not s (c ∷ ds) w = by (decided (decides_same_word (word_at s c.place) w)) (defined_or_not s ds w)
  where
    by : Dec (word_at s c.place ≡ w) → DefinedAmong s ds w ⊎ ((d : Definition) → Memᴰ d ds → word_at s d.place ≡ w → ⊥) →
        DefinedAmong s (c ∷ ds) w ⊎ ((d : Definition) → Memᴰ d (c ∷ ds) → word_at s d.place ≡ w → ⊥)
    by (yes e) rest = inl (c, Memᴰ.head refl, e)
    by (no apart) (inl (d, m, e)) = inl (d, Memᴰ.tail m, e)
    by (no apart) (inr lacking) = inr (λ d m e. ⊎_elim
        (λ (same : d ≡ c). apart (subst (λ (x : Definition). word_at s x.place ≡ w) same e)) (λ later. lacking d later e) (Memᴰ.cases_cons m))

module _ {s : List ℕ} {sys : System} (named : WellNamed s sys) where
  -- each use has a definition
  pub use_defined : (p : ℕ) → Memᴰ p (uses sys) → DefinedAmong s (nodes_of sys) (word_at s p)
  use_defined p m = ⊎_elim (λ there. there) (λ lacking. absurd (named p (Misnamed.undefined m (missing lacking)))) (defined_or_not s (nodes_of sys) (word_at s p))
    where
      missing : ((d : Definition) → Memᴰ d (nodes_of sys) → word_at s d.place ≡ word_at s p → ⊥) →
          (q : ℕ) → Memᴰ q (definitions sys) → word_at s q ≡ word_at s p → ⊥
      missing lacking q here same =
          let (d, there, e) = Memᴰ.of_map place_in (nodes_of sys) (subst (Memᴰ q) (sym (node_places sys)) here) in
          lacking d there (ap (word_at s) e ∙ same)
