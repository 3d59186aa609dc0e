-- What the buffers hold of three forms, (again 2 (read 3 1) (again 0 (step 4)) (swap 3 1 7 8)), (step 3) and (drop 2).
use mathlib.Core.Path.{◌≡◌, refl}
use mathlib.Core.List.{[], ◌∷◌}
use Rattle.history_spec.specs.History.{read, swap, step, drop, begin}
use Rattle.session_spec.specs.Session.{Forms, act, again, empty, with, times}
use Rattle.session_reader.specs.Tables.{table_of, done_of, form_names_of}

abbrev three : Forms
three =
    with
    (with
    (with empty
    (again 2 (with (with (with empty (act (begin 3 (read 1)))) (again 0 (with empty (act (step 4))))) (act (begin 3 (swap 1 7 8))))))
    (act (step 3)))
    (act (drop 2))

their_table : table_of (done_of three) ≡ 1 ∷ 3 ∷ 1 ∷ 0 ∷ 0 ∷ 2 ∷ 3 ∷ 1 ∷ 7 ∷ 8 ∷ 3 ∷ 3 ∷ 0 ∷ 0 ∷ 0 ∷ 4 ∷ 2 ∷ 0 ∷ 0 ∷ 0 ∷ []
unfolding table_of done_of
their_table = refl

their_names : form_names_of 0 three ≡ 0 ∷ 1 ∷ 0 ∷ 1 ∷ 2 ∷ 3 ∷ []
unfolding form_names_of done_of times
their_names = refl
