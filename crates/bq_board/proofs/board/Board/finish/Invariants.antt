use Rattle.bq_board.proofs.board.Board.finish.Given as goal

abbrev pub ghosts-finish_as : goal.ghosts-finish_as
ghosts-finish_as g a = record { number = a._m }
