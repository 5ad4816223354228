mod MakeFacts
