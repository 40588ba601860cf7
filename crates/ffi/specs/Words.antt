-- Operations, registers and answers as words, and the two C functions.
use Rattle.std.specs.Prelude.{ℕ, ◌+◌, ◌<◌, ◌≡◌, Bool, false, cond, List, eqb, ltb, length, get_or, set}
use Rattle.model.specs.Numbers.{kind_number, Result, ok, fault, refused, shown}
use Rattle.model.specs.step.Machine.{After, stepped, started}
use Rattle.model.specs.declared.Setting.{Setting}
use Rattle.model.specs.declared.Answer.{Answer}
use Rattle.model.specs.declared.Kind.{Kind}
use Rattle.model.specs.declared.Kind.TheVariants.{Read, Write, Root, Asid, Mode, All, Addr, Ctx, AddrCtx, Fetch, Domain}
use Rattle.model.specs.declared.Operation.{Operation}
use Rattle.model.specs.declared.Registers.{Registers}

-- the kind with this number, in the order of the rules
unfoldable pub kind_from : ℕ → Kind
kind_from k =
    cond (eqb k 0) Read
    (cond (eqb k 1) Write
    (cond (eqb k 2) Root
    (cond (eqb k 3) Asid
    (cond (eqb k 4) Mode
    (cond (eqb k 5) All
    (cond (eqb k 6) Addr
    (cond (eqb k 7) Ctx
    (cond (eqb k 8) AddrCtx
    (cond (eqb k 9) Fetch Domain)))))))))

-- Kinds have the numbers of the rules, one to one.
pub record KindNumbers : Type 0 where
  pub there : (k : Kind) → kind_from (kind_number k) ≡ k
  pub back : (n : ℕ) → n < 11 → kind_number (kind_from n) ≡ n

-- kind, a, b and c as four words
unfoldable pub operation_from : List ℕ → Operation
operation_from o = record { kind = kind_from (get_or o 0 0); a = get_or o 1 0; b = get_or o 2 0; c = get_or o 3 0 }

-- root, context, mode and domains as four words
unfoldable pub registers_from : List ℕ → Registers
registers_from r = record { root = get_or r 0 0; context = get_or r 1 0; mode = get_or r 2 0; domains = get_or r 3 0 }

unfoldable pub registers_into : List ℕ → Registers → List ℕ
registers_into l x = set (set (set (set l 0 x.root) 1 x.context) 2 x.mode) 3 x.domains

-- a result of the rules as one number: the value, a fault above every value, a refusal above every fault
abbrev pub result_number : Result → ℕ
result_number (ok v) = v
result_number (fault n) = 0x100000000 + n
result_number (refused n) = 0x200000000 + n

abbrev pub answer_number : Answer → ℕ
answer_number x = result_number (shown x)

-- what a C function returns, and what it leaves
pub record Called : Type 0 where
  pub number : ℕ
  pub registers : List ℕ
  pub memory : List ℕ
  pub track : List ℕ

-- a number returned, and registers, memory and track left, are what a `Called` says
pub record Left (y : Called) (x : ℕ) (r m t : List ℕ) : Type 0 where
  pub number : x ≡ y.number
  pub registers : r ≡ y.registers
  pub memory : m ≡ y.memory
  pub track : t ≡ y.track

abbrev pub called : After → List ℕ → Called
called y r = record { number = answer_number y.answer; registers = registers_into r y.registers; memory = y.memory; track = y.track }

-- words that are no operation or no registers: nothing is done
abbrev pub not_called : List ℕ → List ℕ → List ℕ → Called
not_called r m t = record { number = 0x300000000; registers = r; memory = m; track = t }

-- whether these are the words of an operation, and of registers
unfoldable pub are_words : List ℕ → List ℕ → Bool
are_words o r = cond (eqb (length o) 4) (cond (eqb (length r) 4) (ltb (get_or o 0 0) 11) false) false

unfoldable pub step_call : List ℕ → List ℕ → List ℕ → List ℕ → Called
step_call o r m t = cond (are_words o r) (called (stepped (operation_from o) (registers_from r) m t) r) (not_called r m t)

unfoldable pub start_call : List ℕ → List ℕ → Setting → List ℕ → Called
start_call m t g r = cond (eqb (length r) 4) (called (started m t g) r) (not_called r m t)
