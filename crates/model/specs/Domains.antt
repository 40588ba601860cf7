-- Domains and what a TLB remembers: never the domain register, and always the domain of a descriptor.
use Rattle.std.specs.Prelude.{ℕ, ◌+◌, ◌*◌, ◌-◌, ◌/◌, ◌<◌, ◌≡◌, Bool, true, List}
use Rattle.model.specs.Limits.{page_size, old_window}
use Rattle.model.specs.reference.Rules.{found, domain_of, table_word, State, outcome, Scope, covers, Places, Move, moves, chip_outcome, chip_step, one, kept, track_word, stale}
use Rattle.model.specs.reference.Runs.{next}
use Rattle.model.specs.step.Machine.{After}
use Rattle.model.specs.Invisible.{Session, Accepted, at_end, checker}
use Rattle.model.specs.Types.{Operation, Domain, Entry}

-- ── The register ──

-- `domain` with any fields
abbrev pub to_domains : ℕ → ℕ → ℕ → Operation
to_domains a b c = record { kind = Domain; a = a; b = b; c = c }

-- a state with another domain register
abbrev pub under : State → ℕ → State
under s d = record {
  memory = s.memory;
  registers = record { root = s.registers.root; context = s.registers.context; mode = s.registers.mode; domains = d };
}

-- whether a page is stale in a context, with the track, the memory and the root that a call left
abbrev pub stale_after : After → ℕ → ℕ → Bool
stale_after x context page =
    stale old_window x.track context page (outcome (record { memory = x.memory; registers = x.registers }) (page * page_size))

-- A TLB never remembers the register.
pub record RegisterForgotten : Type 0 where
  -- in a run from an accepted start `domain`, refused or not, changes no word of the track
  pub track : (x : Session) → Accepted checker x → (a b c : ℕ) → (next checker (to_domains a b c) (at_end checker x)).track ≡ (at_end checker x).track
  -- and a page is stale after it, in whatever context, if it was before, and not otherwise
  pub stale : (x : Session) → Accepted checker x → (a b c context page : ℕ) →
      stale_after (next checker (to_domains a b c) (at_end checker x)) context page ≡ stale_after (at_end checker x) context page
  -- a chip's moves, its flushes and what it translates by are the same whatever the register says
  pub moves : (s : State) (d : ℕ) (ps : Places) (ms : List Move) → moves (under s d) ps ms ≡ moves s ps ms
  pub flushes : (o : Operation) (b : Bool) (s : State) (d : ℕ) (ps : Places) → (chip_step o b (under s d) ps).2 ≡ (chip_step o b s ps).2
  pub translates : (s : State) (d : ℕ) (ps : Places) (a : ℕ) → chip_outcome (under s d) ps a ≡ chip_outcome s ps a

-- ── The domain of a descriptor ──

-- a level-one word with another domain, and every other bit as it was
abbrev pub redomained : ℕ → ℕ → ℕ
redomained d w = w - domain_of w * 32 + d * 32

-- an entry with another domain
abbrev pub with_domain : Entry → ℕ → Entry
with_domain e d = record { frame = e.frame; ap = e.ap; section = e.section; global = e.global; xn = e.xn; domain = d }

-- What a level-one word w says of an address, whether it is a section's or points to a table, is `table_word m a w`. Its domain alone is changed.
pub record DomainRemembered : Type 0 where
  -- each page that it mapped it maps still, by the same entry but for the domain
  pub alone : (m : List ℕ) (a w d : ℕ) (e : Entry) → d < 16 → table_word m a w ≡ found e → table_word m a (redomained d w) ≡ found (with_domain e d)
  -- and the page is stale in every context that uses a set in which the old entry is still noted
  pub stale : (m t : List ℕ) (window a w d : ℕ) (e : Entry) (u : Scope) (context : ℕ) → d < 16 → (d ≡ domain_of w → ⊥) → table_word m a w ≡ found e →
      covers u context ≡ true → kept u (track_word window t u (a / page_size)) ≡ one e →
      stale window t context (a / page_size) (table_word m a (redomained d w)) ≡ true
