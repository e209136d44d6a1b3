-- Statuses: 0, a call to make again, or a refusal.
use Rattle.std.specs.Prelude.{ℕ, ◌+◌, ◌*◌}

-- a letter, as its byte, and a number
abbrev pub refusal : ℕ → ℕ → ℕ
refusal letter number = letter * 256 + number

-- the letters of the store's calls, of the decoder, of the verifier, of the manifest, of opening, and of what a host alone can do wrong
abbrev pub letter_S : ℕ
letter_S = 83

abbrev pub letter_D : ℕ
letter_D = 68

abbrev pub letter_V : ℕ
letter_V = 86

abbrev pub letter_C : ℕ
letter_C = 67

abbrev pub letter_O : ℕ
letter_O = 79

abbrev pub letter_H : ℕ
letter_H = 72

-- and of a state's text
abbrev pub letter_E : ℕ
letter_E = 69

-- the call is done
abbrev pub done : ℕ
done = 0

-- another session held a place
abbrev pub busy : ℕ
busy = 1

-- an update is posted and not answered
abbrev pub again : ℕ
again = 2

-- H1: no session of the node is free
abbrev pub no_session : ℕ
no_session = refusal letter_H 1

-- H2: the handle is not open
abbrev pub not_open : ℕ
not_open = refusal letter_H 2

-- H3: an update is out
abbrev pub is_out : ℕ
is_out = refusal letter_H 3

-- H4: a text is not UTF-8
abbrev pub no_text : ℕ
no_text = refusal letter_H 4

-- H5: a word is none of a call
abbrev pub no_word : ℕ
no_word = refusal letter_H 5

-- H6: the session may not come after those of a lane, or another has a part of the store
abbrev pub not_ours : ℕ
not_ours = refusal letter_H 6

-- H9: the state has other sizes than the store
abbrev pub other_sizes : ℕ
other_sizes = refusal letter_H 9

-- E0: no memory for a text
abbrev pub no_text_room : ℕ
no_text_room = refusal letter_E 0

-- O1: limits of maps, or a size, that is out of its limits
abbrev pub out_of_limits : ℕ
out_of_limits = refusal letter_O 1

-- O2: no memory
abbrev pub no_memory : ℕ
no_memory = refusal letter_O 2

-- S1: no program has the name. S5: a session is attached
abbrev pub no_program : ℕ
no_program = refusal letter_S 1

abbrev pub is_attached : ℕ
is_attached = refusal letter_S 5

-- S4: the history has ended
abbrev pub ended : ℕ
ended = refusal letter_S 4
