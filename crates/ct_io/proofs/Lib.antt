mod ReadPiece
