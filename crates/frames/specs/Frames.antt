-- What a frame holds, and what each function leaves in the buffer that it writes: the whole list, as a function of what it held before.
-- `ws` are the words of the workspace, b is the first word of a frame, `ls` are the locals; `set` writes one word, and `paste` the first
-- words of a list. Assumes nothing.
use Rattle.std.specs.Prelude.{ℕ, ◌+◌, List, get_or, take, drop, set}
use Rattle.std.proofs.Math.Seq.{paste}
use Rattle.frames.specs.declared.Seat.{Seat}

-- THE LAYOUT of a frame, which is 32 words: where each of its parts stands. Word 7 and the last three are not used.
abbrev pub function_word : ℕ → ℕ
function_word b = b + 1

abbrev pub node_word : ℕ → ℕ
node_word b = b + 2

abbrev pub count_word : ℕ → ℕ
count_word b = b + 3

abbrev pub value_word : ℕ → ℕ
value_word b = b + 4

abbrev pub before_word : ℕ → ℕ
before_word b = b + 5

abbrev pub left_word : ℕ → ℕ
left_word b = b + 6

abbrev pub locals_word : ℕ → ℕ
locals_word b = b + 8

abbrev pub arguments_word : ℕ → ℕ
arguments_word b = b + 24

abbrev pub place_word : ℕ → ℕ
place_word b = b + 27

abbrev pub right_word : ℕ → ℕ
right_word b = b + 28

-- WHAT A FRAME HOLDS: its kind, the function and the node, how many locals it saves, its value (or how many arguments are collected), the
-- span before the fork and that of the left branch
abbrev pub frame_kind : List ℕ → ℕ → ℕ
frame_kind ws b = get_or ws b 0

abbrev pub frame_function : List ℕ → ℕ → ℕ
frame_function ws b = get_or ws (function_word b) 0

abbrev pub frame_node : List ℕ → ℕ → ℕ
frame_node ws b = get_or ws (node_word b) 0

abbrev pub frame_count : List ℕ → ℕ → ℕ
frame_count ws b = get_or ws (count_word b) 0

abbrev pub frame_value : List ℕ → ℕ → ℕ
frame_value ws b = get_or ws (value_word b) 0

abbrev pub frame_before : List ℕ → ℕ → ℕ
frame_before ws b = get_or ws (before_word b) 0

abbrev pub frame_left : List ℕ → ℕ → ℕ
frame_left ws b = get_or ws (left_word b) 0

-- where a fork's three words stand in the graph's buffer, and where its right graph begins there (document 02, P1)
abbrev pub frame_place_at : List ℕ → ℕ → ℕ
frame_place_at ws b = get_or ws (place_word b) 0

abbrev pub frame_right : List ℕ → ℕ → ℕ
frame_right ws b = get_or ws (right_word b) 0

abbrev pub seat_at : List ℕ → ℕ → Seat
seat_at ws b = record { function = frame_function ws b; node = frame_node ws b; count = frame_count ws b }

-- its locals, and its arguments
abbrev pub frame_locals : List ℕ → ℕ → List ℕ
frame_locals ws b = take (frame_count ws b) (drop (locals_word b) ws)

abbrev pub frame_arguments : List ℕ → ℕ → List ℕ
frame_arguments ws b = take (frame_value ws b) (drop (arguments_word b) ws)

-- WHAT IS WRITTEN. The first k locals, saved in a frame (document 02, P3): they stand there, and every other word is as it was
abbrev pub saved : List ℕ → ℕ → List ℕ → ℕ → List ℕ
saved ws b ls k = paste ws (locals_word b) ls k

-- a new frame: its kind, function and node, the first k locals with their number, no value yet, and the span before the fork
unfoldable pub pushed : List ℕ → ℕ → ℕ → ℕ → ℕ → ℕ → List ℕ → ℕ → List ℕ
pushed ws b kind function node k ls before =
    saved (set (set (set (set (set (set ws b kind) (function_word b) function) (node_word b) node) (count_word b) k) (value_word b) 0) (before_word b) before) b ls k

-- a frame turned to its second child: another kind, the first child's value and the span of the left branch
unfoldable pub turned : List ℕ → ℕ → ℕ → ℕ → ℕ → List ℕ
turned ws b kind v span = set (set (set ws b kind) (value_word b) v) (left_word b) span

-- argument n of a frame, and how many it has collected now
unfoldable pub collected : List ℕ → ℕ → ℕ → ℕ → List ℕ
collected ws b n v = set (set ws (arguments_word b + n) v) (value_word b) (n + 1)

-- a frame promoted: another kind, and the span before the fork
abbrev pub marked : List ℕ → ℕ → ℕ → ℕ → List ℕ
marked ws b kind span = set (set ws b kind) (before_word b) span

-- the places that a fork keeps
abbrev pub placed : List ℕ → ℕ → ℕ → List ℕ
placed ws b place = set ws (place_word b) place

abbrev pub right_placed : List ℕ → ℕ → ℕ → List ℕ
right_placed ws b right = set ws (right_word b) right

-- k locals brought back from the words from `from` on
abbrev pub loaded : List ℕ → List ℕ → ℕ → ℕ → List ℕ
loaded ls ws from k = paste ls 0 (drop from ws) k

-- one local more, after the first k
abbrev pub appended : List ℕ → ℕ → ℕ → List ℕ
appended ls k v = set ls k v
