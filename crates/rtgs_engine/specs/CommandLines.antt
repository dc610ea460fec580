-- The command lines that the program takes.
use Rattle.std.specs.Prelude.{ℕ, ◌+◌, ◌-◌, ◌*◌, ◌&&◌, Bool, true, false, if◌then◌else◌, List, [], ◌∷◌, Option, Some, None, bytes_eq, length, nat_le, option_map, take, drop, codes}
use Rattle.cash_amounts.specs.Names.{is_digit, is_name}
use Rattle.machine.specs.Words.{when}
use Rattle.rtgs_engine.specs.declared.words.Command.{Command}
use Rattle.rtgs_engine.specs.declared.words.Command.TheVariants as commands
use Rattle.rtgs_engine.specs.declared.words.Trial.{Trial}

-- ---- the workers

-- how many there are where the words don't say
abbrev pub usual_workers : ℕ
usual_workers = 4

-- a digit from 0 to 8, alone
abbrev pub count_of : List ℕ → Option ℕ
count_of (digit ∷ []) = when (nat_le 48 digit && nat_le digit 56) (digit - 48)
count_of _ = None

-- of the word --workers=N
abbrev pub count_behind : List ℕ → Option ℕ
count_behind word = if bytes_eq (take 10 word) (codes "--workers=") then count_of (drop 10 word) else None

-- of the words --workers N
abbrev pub count_of_two : List ℕ → List ℕ → Option ℕ
count_of_two option count = if bytes_eq option (codes "--workers") then count_of count else None

-- ---- the numbers of a trial

-- After digits that make this number: the end, or one more digit that leaves it at most so much. A digit more makes no number
-- less, so this is the number that the digits spell where it is at most so much.
abbrev pub with_digits : ℕ → ℕ → List ℕ → Option ℕ
with_digits most n [] = Some n
with_digits most n (c ∷ text) = if is_digit c && nat_le (10 * n + (c - 48)) most then with_digits most (10 * n + (c - 48)) text else None

abbrev pub from : ℕ → Option ℕ → Option ℕ
from least (Some n) = when (nat_le least n) n
from least None = None

-- a number from least to most, of 1 to so many digits, of which the first may be zeros
abbrev pub number_of : ℕ → ℕ → ℕ → List ℕ → Option ℕ
number_of digits least most text = if nat_le 1 (length text) && nat_le (length text) digits then from least (with_digits most 0 text) else None

abbrev pub seed_of : List ℕ → Option ℕ
seed_of = number_of 10 0 2147483647

abbrev pub batches_of : List ℕ → Option ℕ
batches_of = number_of 5 1 10000

abbrev pub trial_by : Option ℕ → Option ℕ → Option ℕ → Option Trial
trial_by (Some workers) (Some seed) (Some batches) = Some (record { seed = seed; batches = batches; workers = workers })
trial_by _ _ _ = None

-- with so many workers, and these words for the seed and the batches
abbrev pub trial_of : Option ℕ → List ℕ → List ℕ → Option Trial
trial_of workers seed batches = trial_by workers (seed_of seed) (batches_of batches)

abbrev pub first_of : Option Trial → Option Trial → Option Trial
first_of (Some trial) other = Some trial
first_of None other = other

-- the word --workers=N stands before, between or after the two numbers
abbrev pub trial_of_three : List ℕ → List ℕ → List ℕ → Option Trial
trial_of_three a b c = first_of (trial_of (count_behind a) b c) (first_of (trial_of (count_behind b) a c) (trial_of (count_behind c) a b))

-- so do the words --workers N
abbrev pub trial_of_four : List ℕ → List ℕ → List ℕ → List ℕ → Option Trial
trial_of_four a b c d = first_of (trial_of (count_of_two a b) c d) (first_of (trial_of (count_of_two b c) a d) (trial_of (count_of_two c d) a b))

-- ---- the commands

-- a line of one word
abbrev pub command_alone : List ℕ → Option Command
command_alone word =
    if bytes_eq word (codes "settle") then Some (commands.Settle usual_workers)
    else if bytes_eq word (codes "check") then Some commands.Check
    else if bytes_eq word (codes "migrate") then Some commands.Migrate
    else if bytes_eq word (codes "replay") then Some commands.Replay
    else None

abbrev pub follow_of : List ℕ → Option Command
follow_of name = if is_name name then Some (commands.Follow name) else None

-- of two words
abbrev pub command_of_two : List ℕ → List ℕ → Option Command
command_of_two word other =
    if bytes_eq word (codes "settle") then option_map commands.Settle (count_behind other)
    else if bytes_eq word (codes "follow") then follow_of other
    else None

-- of three words
abbrev pub command_of_three : List ℕ → List ℕ → List ℕ → Option Command
command_of_three word option count =
    if bytes_eq word (codes "settle") then option_map commands.Settle (count_of_two option count)
    else if bytes_eq word (codes "trial") then option_map commands.Trial (trial_of (Some usual_workers) option count)
    else None

-- of four words
abbrev pub command_of_four : List ℕ → List ℕ → List ℕ → List ℕ → Option Command
command_of_four word a b c = if bytes_eq word (codes "trial") then option_map commands.Trial (trial_of_three a b c) else None

-- of five words
abbrev pub command_of_five : List ℕ → List ℕ → List ℕ → List ℕ → List ℕ → Option Command
command_of_five word a b c d = if bytes_eq word (codes "trial") then option_map commands.Trial (trial_of_four a b c d) else None

-- what a command line asks for, or none where the words are no command line
abbrev pub command_of : List (List ℕ) → Option Command
command_of (word ∷ []) = command_alone word
command_of (word ∷ option ∷ []) = command_of_two word option
command_of (word ∷ option ∷ count ∷ []) = command_of_three word option count
command_of (word ∷ a ∷ b ∷ c ∷ []) = command_of_four word a b c
command_of (word ∷ a ∷ b ∷ c ∷ d ∷ []) = command_of_five word a b c d
command_of _ = None

-- how many workers a command takes
abbrev pub workers_of : Command → ℕ
workers_of (commands.Settle workers) = workers
workers_of (commands.Trial trial) = trial.workers
workers_of _ = 0

-- whether a command reads an input, as all do but a trial
abbrev pub reads : Command → Bool
reads (commands.Trial trial) = false
reads _ = true

abbrev pub usage_text : List ℕ
usage_text = codes "usage: rtgs settle [--workers N] | check | migrate | replay | follow NAME | trial SEED BATCHES [--workers N]\n"
