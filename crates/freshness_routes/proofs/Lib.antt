mod OwnIds
