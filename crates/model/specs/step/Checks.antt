-- The checks that stand before an access, in their order.
use Rattle.std.specs.Prelude.{ℕ, zero, suc, ◌+◌, ◌*◌, ◌/◌, ◌%◌, ◌^◌, ◌≡◌, Bool, true, false, cond, List, [], ◌∷◌, eqb, leb, ltb, Ok, Err}
use Rattle.model.specs.Limits.{section_size, old_split, old_window, row_size, memory_unit, memory_most, contexts_most, word_limit}
use Rattle.model.specs.Numbers.{check_number}
use Rattle.model.specs.step.Track.{rows_of, last_row}
use Rattle.model.specs.Types.{Registers, Setting, Operation, Kind, Read, Write, Root, Asid, Mode, All, Addr, Ctx, AddrCtx, Fetch, Domain, Refusal, WrongSize, WrongAddress, WrongValue, WrongRoot, WrongContext, WrongMode, WrongLengths, WrongRegisters, UserMode, WrongDomains, NotContext0, Check}

-- whether n bytes can be a memory, and n words a track
unfoldable pub memory_fits : ℕ → Bool
memory_fits n = cond (eqb (n % memory_unit) 0) (cond (leb memory_unit n) (leb n memory_most) false) false

unfoldable pub track_fits : ℕ → ℕ → Bool
track_fits w n =
    cond (eqb (rows_of w n * row_size w) n) (cond (leb 2 (rows_of w n)) (leb (rows_of w n) (contexts_most + 1)) false) false

unfoldable pub lengths_fit : ℕ → ℕ → ℕ → Bool
lengths_fit w m t = cond (memory_fits m) (track_fits w t) false

-- with N, a root is a multiple of this: 16,384 shifted right
unfoldable pub alignment_of : ℕ → ℕ
alignment_of n = cond (ltb n 15) (16384 / 2 ^ n) 1

unfoldable pub root_fits : ℕ → ℕ → Bool
root_fits n root = eqb (root % alignment_of n) 0

-- whether none of the lowest n fields of a domain register is 2, and none of its sixteen
unfoldable pub fields_fit : ℕ → ℕ → Bool
fields_fit zero w = true
fields_fit (suc n) w = cond (eqb (w % 4) 2) false (fields_fit n (w / 4))

unfoldable pub domains_fit : ℕ → Bool
domains_fit w = fields_fit 16 w

-- whether registers are in range with k contexts
unfoldable pub registers_fit : Registers → ℕ → Bool
registers_fit r k =
    cond (root_fits old_split r.root) (cond (ltb r.context k) (cond (leb r.mode 1) (domains_fit r.domains) false) false) false

-- Each of the following says whether a kind of operation passes one check.
abbrev pub is_size : ℕ → Bool
is_size b = cond (eqb b 1) true (cond (eqb b 2) true (eqb b 4))

unfoldable pub size_fits : Kind → ℕ → Bool
size_fits Read b = is_size b
size_fits Write b = is_size b
size_fits Root b = true
size_fits Asid b = true
size_fits Mode b = true
size_fits All b = true
size_fits Addr b = true
size_fits Ctx b = true
size_fits AddrCtx b = true
size_fits Fetch b = true
size_fits Domain b = true

-- whether an address lies in a window of w MiB
abbrev pub in_window : ℕ → ℕ → Bool
in_window w a = ltb (a / section_size) w

unfoldable pub address_fits : ℕ → Kind → ℕ → Bool
address_fits w Read a = in_window w a
address_fits w Write a = in_window w a
address_fits w Root a = true
address_fits w Asid a = true
address_fits w Mode a = true
address_fits w All a = true
address_fits w Addr a = in_window w a
address_fits w Ctx a = true
address_fits w AddrCtx a = in_window w a
address_fits w Fetch a = in_window w a
address_fits w Domain a = true

abbrev pub fits_size : ℕ → ℕ → Bool
fits_size b c = cond (eqb b 1) (ltb c 256) (cond (eqb b 2) (ltb c 65536) (cond (eqb b 4) (ltb c word_limit) true))

unfoldable pub value_fits : Kind → ℕ → ℕ → Bool
value_fits Read b c = true
value_fits Write b c = fits_size b c
value_fits Root b c = true
value_fits Asid b c = true
value_fits Mode b c = true
value_fits All b c = true
value_fits Addr b c = true
value_fits Ctx b c = true
value_fits AddrCtx b c = true
value_fits Fetch b c = true
value_fits Domain b c = true

unfoldable pub new_root_fits : ℕ → Kind → ℕ → Bool
new_root_fits n Read a = true
new_root_fits n Write a = true
new_root_fits n Root a = root_fits n a
new_root_fits n Asid a = true
new_root_fits n Mode a = true
new_root_fits n All a = true
new_root_fits n Addr a = true
new_root_fits n Ctx a = true
new_root_fits n AddrCtx a = true
new_root_fits n Fetch a = true
new_root_fits n Domain a = true

unfoldable pub context_fits : Kind → ℕ → ℕ → ℕ → Bool
context_fits Read a b k = true
context_fits Write a b k = true
context_fits Root a b k = true
context_fits Asid a b k = ltb a k
context_fits Mode a b k = true
context_fits All a b k = true
context_fits Addr a b k = true
context_fits Ctx a b k = ltb a k
context_fits AddrCtx a b k = ltb b k
context_fits Fetch a b k = true
context_fits Domain a b k = true

unfoldable pub mode_fits : Kind → ℕ → Bool
mode_fits Read a = true
mode_fits Write a = true
mode_fits Root a = true
mode_fits Asid a = true
mode_fits Mode a = leb a 1
mode_fits All a = true
mode_fits Addr a = true
mode_fits Ctx a = true
mode_fits AddrCtx a = true
mode_fits Fetch a = true
mode_fits Domain a = true

unfoldable pub new_domains_fit : Kind → ℕ → Bool
new_domains_fit Read a = true
new_domains_fit Write a = true
new_domains_fit Root a = true
new_domains_fit Asid a = true
new_domains_fit Mode a = true
new_domains_fit All a = true
new_domains_fit Addr a = true
new_domains_fit Ctx a = true
new_domains_fit AddrCtx a = true
new_domains_fit Fetch a = true
new_domains_fit Domain a = domains_fit a

-- whether the operation may be asked for in this mode
unfoldable pub may_ask : Kind → ℕ → Bool
may_ask Read mode = true
may_ask Write mode = true
may_ask Root mode = eqb mode 0
may_ask Asid mode = eqb mode 0
may_ask Mode mode = true
may_ask All mode = eqb mode 0
may_ask Addr mode = eqb mode 0
may_ask Ctx mode = eqb mode 0
may_ask AddrCtx mode = eqb mode 0
may_ask Fetch mode = true
may_ask Domain mode = eqb mode 0

-- whether the operation, if it sets the root, may do so in this context
unfoldable pub root_may_change : Kind → ℕ → Bool
root_may_change Read context = true
root_may_change Write context = true
root_may_change Root context = eqb context 0
root_may_change Asid context = true
root_may_change Mode context = true
root_may_change All context = true
root_may_change Addr context = true
root_may_change Ctx context = true
root_may_change AddrCtx context = true
root_may_change Fetch context = true
root_may_change Domain context = true

-- the checks of an operation on a memory of m bytes and a track of t words: what should hold, and the refusal where it does not
unfoldable pub checks : Operation → Registers → ℕ → ℕ → List (Bool × Refusal)
checks o r m t =
    (lengths_fit old_window m t, WrongLengths)
    ∷ (registers_fit r (last_row old_window t), WrongRegisters)
    ∷ (size_fits o.kind o.b, WrongSize)
    ∷ (address_fits old_window o.kind o.a, WrongAddress)
    ∷ (value_fits o.kind o.b o.c, WrongValue)
    ∷ (new_root_fits old_split o.kind o.a, WrongRoot)
    ∷ (context_fits o.kind o.a o.b (last_row old_window t), WrongContext)
    ∷ (mode_fits o.kind o.a, WrongMode)
    ∷ (new_domains_fit o.kind o.a, WrongDomains)
    ∷ (may_ask o.kind r.mode, UserMode)
    ∷ (root_may_change o.kind r.context, NotContext0)
    ∷ []

-- the checks of a start
unfoldable pub start_checks : ℕ → ℕ → Setting → List (Bool × Refusal)
start_checks m t g = (lengths_fit old_window m t, WrongLengths) ∷ (root_fits old_split g.root, WrongRoot) ∷ []

-- the first check that fails
unfoldable pub first_failing : List (Bool × Refusal) → Check
first_failing [] = Ok tt
first_failing (x ∷ xs) = cond x.0 (first_failing xs) (Err x.1)

-- What code says is this check; `number` is its refusal in the numbers of the rules.
pub record Says (y x : Check) : Type 0 where
  pub check : x ≡ y
  pub number : check_number x ≡ check_number y
